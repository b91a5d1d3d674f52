-- Whole numbers of at most fifteen digits, and their writing. Assumes nothing.
use Rattle.std.proofs.Common.{◌≡◌, ℕ, ◌-◌, ◌^◌, ◌<◌, ◌≤◌, List, length, get_or, Some, None, decimal, Option, sym, refl, ap, subst, ⊎_elim, arith, MatchOption}
use Rattle.std.specs.Str.Parse.{AllDigits, digits_value}
use Rattle.std.specs.Char.{digit_value as digitValue}
use Rattle.std.proofs.lemmas.Str.Parse.{IsNumeralModel, numerals_by_value, tells_digits, digits_value_short}
use Rattle.std.proofs.lemmas.Fmt.{decimal_is_IsNumeral, decimal_digit, decimal_nonempty, first_decimal, length-decimal-le, decimal-digits_value}
use Rattle.std.proofs.lemmas.Bool.{cases_lt, le-ltb, lt-ltb}
use Rattle.money.specs.Amounts.{bound, ReadsNumber}

own : IsNumeralModel (AllDigits 10) (digits_value 10)
own = numerals_by_value (AllDigits 10) tells_digits

module _ (n : ℕ) (small : n < bound) where
  pub some_digits : 0 < length (decimal n)
  some_digits = decimal_nonempty n (omega arith)

  pub few_digits : length (decimal n) ≤ 15
  few_digits = length-decimal-le 15 n (omega arith) small (omega arith)

  pub all_digits : AllDigits 10 (decimal n)
  all_digits = (decimal_is_IsNumeral n (omega arith)).0.1

  pub no_zero : get_or (decimal n) 0 0 ≡ 48 → length (decimal n) ≡ 1
  no_zero e =
      ⊎_elim
      (λ pos. absurd (omega (arith, first_decimal n pos (omega arith), e)))
      (λ none. ap length (decimal_digit n (omega arith)))
      (cases_lt 0 n)

-- digits with no needless zero in front are the writing of their value
reads_back : (s : List ℕ) → AllDigits 10 s → 0 < length s → length s ≤ 15 → (get_or s 0 0 ≡ 48 → length s ≡ 1) → (digits_value 10 s < bound) × (s ≡ decimal (digits_value 10 s))
reads_back s d some few front =
    let small : digits_value 10 s < bound = digits_value_short own s 15 d few in
    (small, sym (decimal-digits_value own s d some front (omega arith)))

pub reads_number : (s : List ℕ) (r : Option ℕ) → 0 < length s → length s ≤ 15 → (get_or s 0 0 ≡ 48 → length s ≡ 1) → MatchOption r (AllDigits 10 s → ⊥) (λ n. AllDigits 10 s × (n ≡ digits_value 10 s)) → ReadsNumber s r
reads_number s None some few front none = λ n small e. none (subst (AllDigits 10) (sym e) (all_digits n small))
reads_number s (Some n) some few front (h) = rw h.1 (reads_back s h.0 some few front)

-- the value of at most fourteen digits, and one more digit, fits 64 bits
pub value_room : (s : List ℕ) → AllDigits 10 s → length s ≤ 14 → digits_value 10 s < 10 ^ 14
value_room s d few = digits_value_short own s 14 d few

-- what a digit's byte stands for
pub digit_value : (b : ℕ) → 48 ≤ b → b ≤ 57 → digitValue b ≡ b - 48
digit_value b low high = rw (le-ltb b 48 low, lt-ltb b 58 (omega arith)) refl
