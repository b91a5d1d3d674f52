use Rattle.std.proofs.Common.{sym, subst, rules}
use Rattle.lane.specs.Calls.{step_call}
use Rattle.lane.specs.Tellings.{Tells}
use Rattle.lane.specs.Worlds.{World}
use Rattle.lane.proofs.Keeping.{step_keeps}
use Rattle.lane.proofs.Tellings.{step_answers, step_tells}
use Rattle.book.specs.Views.{world}
use Rattle.book.proofs.Calling.{sane_lent, stepped_sane}
use Rattle.book.proofs.Deeds.{acted, acts, refused_reply, replied}
use Rattle.book.proofs.Reaching.{stepped_within}
use Rattle.book.proofs.book.Book.step.Goals as goal

pub act-requires : goal.act-requires
act-requires g c =
    let d = c.args.self.now.desk in
    let w = world d c.args.lists.now in
    (search rules, acts g.B.Body w (sane_lent d c.args.lists.now c.args.self.now.sane) c.args.seat c.in_ok-ready.ready c.in_ok-ready.ensures)

pub invariant_of-self : goal.invariant_of-self
invariant_of-self g c =
    let d = c.args.self.now.desk in
    let w = world d c.args.lists.now in
    let k = c.args.seat in
    let after = acted g.B.Body w k c.in_ok-ready.ready _ c.in_ok-ready.ensures c.act.ensures in
    record {
      sane = stepped_sane g.B.Body d c.act.new.self c.args.lists.now c.act.new.lists k after c.args.self.now.sane;
      within = stepped_within g.B.Body d c.act.new.self g.met.B.Body.lawful c.args.lists.now c.act.new.lists k after c.args.self.now.within;
    }

pub returns-in_err-ready-clause-law : goal.returns-in_err-ready-clause-law
returns-in_err-ready-clause-law g c =
    let w = world c.args.self.now.desk c.args.lists.now in
    step_keeps g.B.Body g.met.B.Body.lawful w _ c.args.seat (refused_reply g.B.Body w c.args.seat c.in_err-ready.field-0.0 c.in_err-ready.ensures).1

pub returns : goal.returns
returns g c =
    let w = world c.args.self.now.desk c.args.lists.now in
    let k = c.args.seat in
    let after = acted g.B.Body w k c.in_ok-ready.ready _ c.in_ok-ready.ensures c.act.ensures in
    record {
      answer = replied g.B.Body w k c.in_ok-ready.ready c.in_ok-ready.ensures;
      after = after;
      law = step_keeps g.B.Body g.met.B.Body.lawful w _ k after;
      tells = subst (λ (x : World g.row.B.Denot). Tells g.B.Body (step_call g.B.Body w k).moment.call w.bodies x.bodies) (sym after) (step_tells g.B.Body w k);
      answers = λ o h r. step_answers g.B.Body g.met.B.Body.lawful o h w r k;
    }
