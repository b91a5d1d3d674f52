use Rattle.std.proofs.Common.{pos, vec_items, refl, arith}
use Rattle.body.specs.Makers.{no_result}
use Rattle.body.specs.Scripts.{script_members}
use Rattle.body.proofs.Alone.{made}
use Rattle.body.proofs.Doing.{does_script}
use Rattle.body.specs.Scripted.{follows_script, script_lawful}
use Rattle.body.proofs.steps.Script.new.Goals as goal

pub returns : goal.returns
returns c =
    let steps = vec_items c.args.steps in
    let told = rw c.deref.ensures.value at (rw c.in_ok-reach.ensures.ok_part at c.reach_of_steps.ensures) in
    let follows = follows_script (record { steps = c.args.steps; reach = c.in_ok-reach.reach; done = 0; carried = pos 0 }) told.0 told.1 in (
      omega (arith, c.if-len-gt-MOST_STEPS.false, c.len.ensures, c.args.steps.ok.0),
      told.0,
      made script_members no_result script_lawful _ _ _ _ _ refl follows told.1 refl (λ cells room. (does_script steps (pos 0) cells, refl)),
    )
