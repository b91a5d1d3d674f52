use Rattle.std.proofs.Common.{length, get_or, ap, arith}
use Rattle.money.proofs.Numbers.{some_digits, few_digits, no_zero, reads_number}
use Rattle.money.proofs.number.read_number.Goals as goal
use Rattle.money.proofs.number.read_number.Goals.{in_default-via-then-field-lt2, in_default-via-else-field-lt2+in_default-1}

pub returns-in-empty : goal.returns-in-empty
returns-in-empty c n small e = omega (arith, some_digits n small, ap length e)

pub returns-in-empty-2 : goal.returns-in-empty-2
returns-in-empty-2 c n small e =
    let long = ap length e in
    let first = ap (λ s. get_or s 0 0) e in
    omega (arith, no_zero n small (omega (arith, first)), long)

pub returns-in_default : goal.returns-in_default
returns-in_default c n small e = omega (arith, few_digits n small, ap length e, c.if-field-gt-MOST_DIGITS.true)

pub returns-in_default-2 : goal.returns-in_default-2
returns-in_default-2 c =
    elim c.in_default.branch [
      | in_default-via-then-field-lt2 w ↦ reads_number c.args.field.now c.digits_value.result (grind arith) c.if-field-gt-MOST_DIGITS.false (λ zero. grind arith) c.digits_value.ensures
      | in_default-via-else-field-lt2+in_default-1 w ↦ reads_number c.args.field.now c.digits_value.result (grind arith) c.if-field-gt-MOST_DIGITS.false (λ zero. grind arith) c.digits_value.ensures
    ]
