-- The writing of amounts: one text stands for one amount, has no byte below the minus, and is short. Assumes nothing.
use Rattle.std.proofs.Common.{◌≡◌, ℕ, zero, suc, ◌+◌, ◌/◌, ◌^◌, ◌<◌, ◌≤◌, List, [], ◌∷◌, length, drop, ℤ, pos, negsuc, decimal, sym, ap, arith, length-append}
use lib.Signed.{mag}
use Rattle.std.specs.Str.Parse.{AllDigits}
use Rattle.std.specs.Fmt.{signed_decimal}
use Rattle.std.specs.List.{AllByRecursion}
use Rattle.std.proofs.ByRecursion.{All-append, All-weaker}
use Rattle.std.proofs.lemmas.Fmt.{decimal_is_IsNumeral}
use Rattle.std.proofs.lemmas.Str.Parse.{digit_from_value}
use Rattle.money.specs.Amounts.{bound, fraction, padded, units_text, amount_text, Short}
use Rattle.money.specs.Fields.{Lacks}
use Rattle.money.proofs.Numbers.{few_digits}
use Rattle.money.proofs.Units.{units_same, minus_not_units, digits_padded, length_padded}

-- no byte below the minus, so no tab and no end of a line
abbrev pub High : List ℕ → Type 0
High s = AllByRecursion (λ b. 45 ≤ b) s

high_digits : (s : List ℕ) → AllDigits 10 s → High s
high_digits [] d = tt
high_digits (c ∷ s) d = (omega (arith, (digit_from_value c d.0).0), high_digits s d.1)

pub high_decimal : (n : ℕ) → n < 2 ^ 64 → High (decimal n)
high_decimal n small = high_digits (decimal n) (decimal_is_IsNumeral n small).0.1

pub high_signed : (z : ℤ) → mag z < 2 ^ 63 → High (signed_decimal z)
high_signed (pos n) small = high_decimal n (omega arith)
high_signed (negsuc n) small = (omega arith, high_decimal (suc n) (omega arith))

pub lacks_high : (b : ℕ) (s : List ℕ) → b < 45 → High s → Lacks b s
lacks_high b s low high = All-weaker (λ x. 45 ≤ x) (λ x. x ≡ b → ⊥) (λ x h e. omega (arith, h, e)) s high

high_fraction : (k n : ℕ) → High (fraction k n)
high_fraction zero n = tt
high_fraction (suc k) n = (omega arith, high_digits (padded (suc k) n) (digits_padded (suc k) n))

high_units : (k n : ℕ) → n / 10 ^ k < bound → High (units_text k n)
high_units k n small = All-append (λ b. 45 ≤ b) (decimal (n / 10 ^ k)) (fraction k n) (high_decimal (n / 10 ^ k) (omega arith)) (high_fraction k n)

pub high_amount : (k : ℕ) (z : ℤ) → Short k z → High (amount_text k z)
high_amount k (pos n) small = high_units k n small
high_amount k (negsuc n) small = (omega arith, high_units k (suc n) small)

-- at most fifteen digits, a point, and k digits more, with a minus in front
fraction_short : (k n : ℕ) → length (fraction k n) ≤ k + 1
fraction_short zero n = omega arith
fraction_short (suc k) n = omega (arith, length_padded (suc k) n)

units_short : (k n : ℕ) → n / 10 ^ k < bound → length (units_text k n) ≤ k + 16
units_short k n small =
    omega (arith, length-append (decimal (n / 10 ^ k)) (fraction k n), few_digits (n / 10 ^ k) small, fraction_short k n)

pub amount_short : (k : ℕ) (z : ℤ) → Short k z → length (amount_text k z) ≤ k + 17
amount_short k (pos n) small = omega (arith, units_short k n small)
amount_short k (negsuc n) small = omega (arith, units_short k (suc n) small)

pub amount_same : (k : ℕ) (y z : ℤ) → Short k y → Short k z → amount_text k y ≡ amount_text k z → y ≡ z
amount_same k (pos m) (pos n) p q e = ap pos (units_same k m n p q e)
amount_same k (pos m) (negsuc n) p q e = absurd (minus_not_units k m _ p e)
amount_same k (negsuc m) (pos n) p q e = absurd (minus_not_units k n _ q (sym e))
amount_same k (negsuc m) (negsuc n) p q e =
    let more = units_same k (suc m) (suc n) p q (ap (drop 1) e) in
    let same : m ≡ n = omega (arith, more) in
    ap negsuc same
