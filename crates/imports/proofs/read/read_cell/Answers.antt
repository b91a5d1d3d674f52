use Rattle.std.proofs.Common.{sym, refl, ◌∙◌, arith}
use Rattle.std.proofs.lemmas.Fmt.{decimal_injective}
use Rattle.imports.proofs.read.read_cell.Goals as goal

pub returns-in_default : goal.returns-in_default
returns-in_default c =
    let told = c.in-Some.ensures in
    let above = c.if-n-from.false in
    (λ n low e. omega (arith, above, c.from.ensures, decimal_injective n c.in-Some.n (omega arith) (omega (arith, told.0)) (sym e ∙ told.1)), refl)
