use Rattle.std.proofs.Common.{◌≡◌, ◌*◌, get_or, Some, None, sym, ap, ◌∙◌, arith}
use Rattle.std.proofs.lemmas.Bool.{le-ltb}
use Rattle.lane.specs.Worlds.{stretch}
use Rattle.book.specs.Chairs.{seats_of}
use Rattle.book.specs.Views.{if_there, world}
use Rattle.book.proofs.Bounds.{few_reads, few_writes, reads_within, writes_within}
use Rattle.book.proofs.Calling.{sane_lent}
use Rattle.book.proofs.Planning.{short_stretch, ready_no, ready_yes}
use Rattle.book.proofs.Reaching.{narrow_asks}
use Rattle.book.proofs.book.Book.ready.Goals as goal

pub part-requires : goal.part-requires
part-requires g c =
    let d = c.args.self.now.desk in
    let within = reads_within (world d c.args.lists.now) (sane_lent d c.args.lists.now c.args.self.now.sane) c.args.seat c.in_ok-seated.seated c.if-seat-desk.false (sym c.seated_at.ensures ∙ c.in_ok-seated.ensures.ok_part) (sym c.if-not-lent_whole.ensures) in
    omega (arith, c.saturating_sub-helper.ensures)

pub part-requires-2 : goal.part-requires-2
part-requires-2 g c =
    let d = c.args.self.now.desk in
    let within = writes_within (world d c.args.lists.now) (sane_lent d c.args.lists.now c.args.self.now.sane) c.args.seat c.in_ok-seated.seated c.if-seat-desk.false (sym c.seated_at.ensures ∙ c.in_ok-seated.ensures.ok_part) (sym c.if-not-lent_whole.ensures) in
    omega (arith, c.saturating_sub-helper.ensures)

pub invariant_of-sight : goal.invariant_of-sight
invariant_of-sight g c =
    let d = c.args.self.now.desk in
    let l = c.args.lists.now in
    let w = world d l in
    let sane = sane_lent d l c.args.self.now.sane in
    let k = c.args.seat in
    let s = c.in_ok-seated.seated in
    let at : get_or (seats_of d.chairs) k None ≡ Some s = sym c.seated_at.ensures ∙ c.in_ok-seated.ensures.ok_part in
    record {
      few_reads = rw c.part.ensures (omega (arith, few_reads w sane k s c.if-seat-desk.false at, short_stretch l.reads.now (64 * c.saturating_sub-helper.result) s.reads));
      few_writes = rw c.part-2.ensures (omega (arith, few_writes w sane k s c.if-seat-desk.false at, short_stretch l.writes.now (32 * c.saturating_sub-helper.result) s.writes));
    }

pub returns-then-not-entry_there : goal.returns-then-not-entry_there
returns-then-not-entry_there g c =
    let d = c.args.self.now.desk in
    let l = c.args.lists.now in
    let s = c.in_ok-seated.seated in
    let h = c.saturating_sub-helper.ensures in
    ready_no g.B.Body d l c.args.seat s c.in_ok-body.body.now (le-ltb _ _ c.if-seat-desk.false)
    (sym c.seated_at.ensures ∙ c.in_ok-seated.ensures.ok_part)
    (sym c.body_at.ensures ∙ ap (λ b. if_there (λ x. x.now) b) c.in_ok-body.ensures.ok_part)
    (sym c.if-not-lent_whole.ensures)
    c.part.result.now c.part-2.result.now
    (c.part.ensures ∙ ap (λ x. stretch l.reads.now (64 * x) s.reads) h)
    (c.part-2.ensures ∙ ap (λ x. stretch l.writes.now (32 * x) s.writes) h)
    (sym c.if-not-entry_there.ensures)

pub decide-requires : goal.decide-requires
decide-requires g c =
    let d = c.args.self.now.desk in
    let l = c.args.lists.now in
    narrow_asks g.B.Body g.met.B.Body.lawful (world d l) (sane_lent d l c.args.self.now.sane) c.args.self.now.within c.args.seat c.in_ok-body.body.now (sym c.body_at.ensures ∙ ap (λ b. if_there (λ x. x.now) b) c.in_ok-body.ensures.ok_part)

pub returns : goal.returns
returns g c =
    let d = c.args.self.now.desk in
    let l = c.args.lists.now in
    let s = c.in_ok-seated.seated in
    let h = c.saturating_sub-helper.ensures in
    ready_yes g.B.Body d l c.args.seat s c.in_ok-body.body.now (le-ltb _ _ c.if-seat-desk.false)
    (sym c.seated_at.ensures ∙ c.in_ok-seated.ensures.ok_part)
    (sym c.body_at.ensures ∙ ap (λ b. if_there (λ x. x.now) b) c.in_ok-body.ensures.ok_part)
    (sym c.if-not-lent_whole.ensures)
    c.part.result.now c.part-2.result.now
    (c.part.ensures ∙ ap (λ x. stretch l.reads.now (64 * x) s.reads) h)
    (c.part-2.ensures ∙ ap (λ x. stretch l.writes.now (32 * x) s.writes) h)
    c.decide.result c.kind_of.result
    (sym c.if-not-entry_there.ensures) c.decide.ensures c.kind_of.ensures
