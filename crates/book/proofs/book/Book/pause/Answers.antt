use Rattle.std.proofs.Common.{◌≡◌, true, rules}
use Rattle.lane.specs.Calls.{pause_call}
use Rattle.lane.proofs.Keeping.{pause_keeps}
use Rattle.book.specs.Views.{world}
use Rattle.book.proofs.Calling.{pausing, sane_pausing}
use Rattle.book.proofs.book.Book.pause.Goals as goal

pub invariant_of-self : goal.invariant_of-self
invariant_of-self g c = (tt, tt, (sane_pausing true c.args.self.now.desk c.args.self.now.sane, (c.args.self.now.within, tt)))

pub returns-then-self-clause-law : goal.returns-then-self-clause-law
returns-then-self-clause-law g c l =
    let d = c.args.self.now.desk in
    let e : world d l ≡ (pause_call (world d l)).world = search rules in
    pause_keeps g.B.Body g.met.B.Body.lawful (world d l) _ e

pub returns-clause-law : goal.returns-clause-law
returns-clause-law g c l =
    let d = c.args.self.now.desk in
    let e : world (pausing true d) l ≡ (pause_call (world d l)).world = search rules in
    pause_keeps g.B.Body g.met.B.Body.lawful (world d l) _ e
