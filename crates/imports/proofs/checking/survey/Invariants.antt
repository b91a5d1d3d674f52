use Rattle.std.proofs.Common.{length}
use Rattle.imports.proofs.Sofar.{Sofar}
use Rattle.imports.proofs.checking.survey.Given as goal

abbrev pub invariant-loop-rest : goal.invariant-loop-rest
invariant-loop-rest l = Sofar l.text l.code.letters l.rest l.totals

abbrev pub decreases-loop-rest : goal.decreases-loop-rest
decreases-loop-rest l = length l.rest
