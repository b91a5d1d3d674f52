use Rattle.std.proofs.Common.{◌≡◌, length, replicate, sym, rules}
use borrow.Rule.Slice.Mut.{set_vals}
use Rattle.lane.proofs.Keeping.{open_begins}
use Rattle.book.specs.declared.lists.Lists.{Lists}
use Rattle.book.specs.Views.{opened_with}
use Rattle.book.proofs.Calling.{opened_lent, opened_sane}
use Rattle.book.proofs.Reaching.{opened_within}
use Rattle.book.proofs.book.Book.open.Goals as goal

pub invariant_of-result : goal.invariant_of-result
invariant_of-result g c =
    let a = c.args in
    let l = a.lists.now in
    let m = set_vals c.fill.new.self l.marks in
    let zeros : c.fill.new.self ≡ replicate (length l.marks.now) 0 = search rules in
    let after = opened_lent a.name a.helpers a.number l m c.desk-desk.result c.desk-desk.ensures zeros in
    let o = opened_with a.name a.helpers a.number l in
    let l' : Lists = record { cells = l.cells; marks = m; reads = l.reads; writes = l.writes; journal = l.journal } in
    record { sane = opened_sane o c.desk-desk.result l' c.in_ok-admit.ensures after; within = opened_within g.B.Body o c.desk-desk.result l' after }

pub returns : goal.returns
returns g c =
    let a = c.args in
    let l = a.lists.now in
    let m = set_vals c.fill.new.self l.marks in
    let zeros : c.fill.new.self ≡ replicate (length l.marks.now) 0 = search rules in
    let after = opened_lent a.name a.helpers a.number l m c.desk-desk.result c.desk-desk.ensures zeros in
    (sym c.in_ok-admit.ensures, after, open_begins g.B.Body g.met.B.Body.lawful (opened_with a.name a.helpers a.number l) _ (sym c.in_ok-admit.ensures) after)
