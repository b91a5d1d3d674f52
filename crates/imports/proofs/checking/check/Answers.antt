use Rattle.imports.proofs.Admitted.{unambiguous}
use Rattle.imports.proofs.Sofar.{totals_told}
use Rattle.imports.proofs.checking.check.Goals as goal

pub returns-in_err-code-clause-unambiguous : goal.returns-in_err-code-clause-unambiguous
returns-in_err-code-clause-unambiguous c = unambiguous

pub invariant_of-result-clause-told : goal.invariant_of-result-clause-told
invariant_of-result-clause-told c =
    let told = rw c.as_slice.ensures.value at c.in_ok-code.ensures in
    totals_told _ _ _ _ told.1 told.2

pub returns-clause-unambiguous : goal.returns-clause-unambiguous
returns-clause-unambiguous c = unambiguous
