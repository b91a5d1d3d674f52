use Rattle.std.proofs.Common.{ℕ}
use Rattle.worked.proofs.Computed.{worked, follows_itself}
use Rattle.worked.proofs.worked_examples.Goals as goal

pub returns-clause-examples : goal.returns-clause-examples
returns-clause-examples c = worked

pub returns-clause-followed : goal.returns-clause-followed
returns-clause-followed c = (follows_itself (Unit {0}), follows_itself ℕ)
