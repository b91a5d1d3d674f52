use Rattle.std.proofs.Common.{◌≡◌, decimal, sym, ap, ◌∙◌, subst, ⊎_elim, arith}
use Rattle.money.specs.Amounts.{places}
use Rattle.std.proofs.lemmas.Fmt.{decimal_injective}
use Rattle.std.proofs.lemmas.Result.{err_from_is_err_and}
use Rattle.imports.specs.declared.line.Line.{Line}
use Rattle.imports.specs.Lines.{post, transfer, parted, Whole}
use Rattle.imports.specs.Reading.{borrowed}
use Rattle.imports.proofs.Ladders.{twice_fault, amount_fault}
use Rattle.imports.proofs.read.read_row.Goals as goal

pub returns-in_err-amount-in-Some-Post : goal.returns-in_err-amount-in-Some-Post
returns-in_err-amount-in-Some-Post c =
    let p = err_from_is_err_and c.from_residual-in_err-amount-in-Some-Post.result c.from_residual-in_err-amount-in-Some-Post.ensures.1 in
    let fields = subst (λ (l : Line). Whole (borrowed l) × (c.args.row.now ≡ parted (borrowed l))) c.in-Some-Post.field-0-is c.in-Some-Post.ensures in
    let cell = c.in_ok-cell-in-Some-Post.ensures in
    rw (p.1, p.2)
    (amount_fault (places c.args.code.letters) c.args.row.now (post c.in-Some-Post.cell.now c.in-Some-Post.amount.now) fields.0 fields.1 tt
    (λ bad. bad _ cell.0 cell.1) (λ one. one) c.in_err-amount-in-Some-Post.field-0.0 c.in_err-amount-in-Some-Post.ensures)

pub returns-then-from-to : goal.returns-then-from-to
returns-then-from-to c =
    let fields = subst (λ (l : Line). Whole (borrowed l) × (c.args.row.now ≡ parted (borrowed l))) c.in-Some-Transfer.field-0-is c.in-Some-Transfer.ensures in
    let from = c.in_ok-from-in-Some-Transfer.ensures in
    let to = c.in_ok-to-in-Some-Transfer.ensures in
    twice_fault (places c.args.code.letters) c.args.row.now (transfer c.in-Some-Transfer.cell.now c.in-Some-Transfer.other.now c.in-Some-Transfer.amount.now) fields.0 fields.1 tt
    (⊎_elim (λ bad. bad _ from.0 from.1) (λ bad. bad _ to.0 to.1))
    (from.1 ∙ ap decimal c.if-from-to.true ∙ sym to.1)

pub returns-in_err-amount-in-Some-Transfer : goal.returns-in_err-amount-in-Some-Transfer
returns-in_err-amount-in-Some-Transfer c =
    let p = err_from_is_err_and c.from_residual-in_err-amount-in-Some-Transfer.result c.from_residual-in_err-amount-in-Some-Transfer.ensures.1 in
    let fields = subst (λ (l : Line). Whole (borrowed l) × (c.args.row.now ≡ parted (borrowed l))) c.in-Some-Transfer.field-0-is c.in-Some-Transfer.ensures in
    let from = c.in_ok-from-in-Some-Transfer.ensures in
    let to = c.in_ok-to-in-Some-Transfer.ensures in
    rw (p.1, p.2)
    (amount_fault (places c.args.code.letters) c.args.row.now (transfer c.in-Some-Transfer.cell.now c.in-Some-Transfer.other.now c.in-Some-Transfer.amount.now) fields.0 fields.1 tt
    (⊎_elim (λ bad. bad _ from.0 from.1) (λ bad. bad _ to.0 to.1))
    (λ one. c.if-from-to.false (decimal_injective _ _ (omega (arith, from.0)) (omega (arith, to.0)) (sym from.1 ∙ one ∙ to.1)))
    c.in_err-amount-in-Some-Transfer.field-0.0 c.in_err-amount-in-Some-Transfer.ensures)
