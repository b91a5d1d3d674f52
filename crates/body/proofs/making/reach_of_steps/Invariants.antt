use Rattle.std.proofs.Common.{◌≡◌, take}
use Rattle.std.specs.List.{AllByRecursion}
use Rattle.body.specs.Makers.{SoundStep, steps_reach}
use Rattle.body.proofs.making.reach_of_steps.Given as goal

abbrev pub invariant-loop-step : goal.invariant-loop-step
invariant-loop-step l = AllByRecursion SoundStep (take l.step-index l.steps) × (l.reach ≡ steps_reach (take l.step-index l.steps))
