-- The digits after the point, and amounts with no sign. Assumes nothing.
use Rattle.std.proofs.Common.{◌≡◌, ℕ, zero, suc, ◌+◌, ◌*◌, ◌/◌, ◌%◌, ◌^◌, ◌<◌, ◌≤◌, List, [], ◌∷◌, ◌++◌, length, get_or, take, drop, decimal, sym, refl, ap, ◌∙◌, subst, mul_assoc, pow-suc, arith, length-append}
use native.Mathlib.Nat.{pow-succ', div-div-eq-div-mul}
use lib.Arith.{digits_div}
use Rattle.std.specs.Str.Parse.{AllDigits, digits_value, digits_value_after}
use Rattle.std.specs.Char.{digit_value as digitValue}
use Rattle.std.specs.Int.{IsInRange}
use Rattle.std.proofs.lemmas.Fmt.{decimal_injective}
use Rattle.std.proofs.lemmas.Int.Digits.{digits_push, digits_value_push, digits_value-lt}
use Rattle.std.proofs.lemmas.List.{length_push, take_at, drop_at, take-append-drop, append_cancel_right, get_or_append_left}
use Rattle.std.proofs.lemmas.Str.Parse.{digit_from_value, digit_at}
use Rattle.money.specs.Amounts.{bound, padded, fraction, units_text}
use Rattle.money.proofs.Numbers.{digit_value, some_digits, all_digits}

-- digits of one value, as many, are the same digits
same_byte : (c d : ℕ) → digitValue c < 10 → digitValue d < 10 → digitValue c ≡ digitValue d → c ≡ d
same_byte c d p q e =
    let low = digit_from_value c p in
    let high = digit_from_value d q in
    omega (arith, e, digit_value c low.0 low.1, digit_value d high.0 high.1)

same_after : (a b : ℕ) (ds es : List ℕ) → AllDigits 10 ds → AllDigits 10 es → length ds ≡ length es → digits_value_after 10 a ds ≡ digits_value_after 10 b es → (a ≡ b) × (ds ≡ es)
same_after a b [] [] p q l e = (e, refl)
same_after a b [] (d ∷ es) p q l e = absurd (omega arith)
same_after a b (c ∷ ds) [] p q l e = absurd (omega arith)
same_after a b (c ∷ ds) (d ∷ es) p q l e =
    let rest = same_after (a * 10 + digitValue c) (b * 10 + digitValue d) ds es p.1 q.1 (omega arith) e in
    let first : digitValue c ≡ digitValue d = omega (arith, rest.0, p.0, q.0) in
    (omega (arith, rest.0, first), λ i. same_byte c d p.0 q.0 first i ∷ rest.1 i)

same_digits : (ds es : List ℕ) → AllDigits 10 ds → AllDigits 10 es → length ds ≡ length es → digits_value 10 ds ≡ digits_value 10 es → ds ≡ es
same_digits ds es p q l e = (same_after 0 0 ds es p q l e).1

pub length_padded : (k n : ℕ) → length (padded k n) ≡ k
length_padded zero n = refl
length_padded (suc k) n = length_push (padded k (n / 10)) _ ∙ omega (arith, length_padded k (n / 10))

ten : (n : ℕ) → n % 10 < 10
ten n = omega arith

pub digits_padded : (k n : ℕ) → AllDigits 10 (padded k n)
digits_padded zero n = tt
digits_padded (suc k) n =
    let d : digitValue (48 + n % 10) < 10 = omega (arith, digit_value (48 + n % 10) (omega arith) (omega (arith, ten n)), ten n) in
    digits_push 10 (padded k (n / 10)) (48 + n % 10) (digits_padded k (n / 10)) d

-- a number is its whole units and the value of the digits after the point
pub value_padded : (k n : ℕ) → n / 10 ^ k * 10 ^ k + digits_value 10 (padded k n) ≡ n
value_padded zero n = omega arith
value_padded (suc k) n =
    let m = 10 ^ k in
    let d = digit_value (48 + n % 10) (omega arith) (omega (arith, ten n)) in
    let push = digits_value_push 10 (padded k (n / 10)) (48 + n % 10) in
    let front = value_padded k (n / 10) in
    let div : n / 10 / m ≡ n / 10 ^ suc k = div-div-eq-div-mul n 10 m ∙ ap (λ x. n / x) (sym (pow-succ' 10 k)) in
    let power : n / 10 ^ suc k * 10 ^ suc k ≡ n / 10 ^ suc k * m * 10 = ap (λ x. n / 10 ^ suc k * x) (pow-suc 10 k) ∙ sym (mul_assoc (n / 10 ^ suc k) m 10) in
    let back : n / 10 / m * m ≡ n / 10 ^ suc k * m = ap (λ x. x * m) div in
    omega (arith, push, d, front, power, back)

-- k digits after a point, and what stands before the point
module _ (k n : ℕ) (pos : 0 < k) where
  units_parts : units_text k n ≡ decimal (n / 10 ^ k) ++ 46 ∷ padded k n
  units_parts = ap (λ f. decimal (n / 10 ^ k) ++ f) (point k pos)
    where
      point : (k : ℕ) → 0 < k → fraction k n ≡ 46 ∷ padded k n
      point zero p = absurd (omega arith)
      point (suc k) p = refl

  units_length : length (units_text k n) ≡ length (decimal (n / 10 ^ k)) + k + 1
  units_length =
      omega (arith, ap length units_parts, length-append (decimal (n / 10 ^ k)) (46 ∷ padded k n), length_padded k n)

  module _ (p : ℕ) (s : List ℕ) (is : s ≡ units_text k n) (at : length s ≡ p + k + 1) where
    front : length (decimal (n / 10 ^ k)) ≡ p
    front = omega (arith, units_length, at, ap length is)

    pub whole_there : take p s ≡ decimal (n / 10 ^ k)
    whole_there = ap (take p) (is ∙ units_parts) ∙ take_at (decimal (n / 10 ^ k)) (46 ∷ padded k n) p front

    pub part_there : drop p s ≡ 46 ∷ padded k n
    part_there = ap (drop p) (is ∙ units_parts) ∙ drop_at (decimal (n / 10 ^ k)) (46 ∷ padded k n) p front

-- the whole units and the digits after the point make up the amount
module _ (k : ℕ) (some : 0 < k) (p w : ℕ) (s part : List ℕ) (whole : take p s ≡ decimal w) (point : drop p s ≡ 46 ∷ part) (long : length part ≡ k) (digits : AllDigits 10 part) where
  pub part_small : digits_value 10 part < 10 ^ k
  part_small = subst (λ l. digits_value 10 part < 10 ^ l) long (digits_value-lt 10 part digits)

  pub units_whole : (w * 10 ^ k + digits_value 10 part) / 10 ^ k ≡ w
  units_whole = digits_div w part_small

  same : padded k (w * 10 ^ k + digits_value 10 part) ≡ part
  same =
      let m = w * 10 ^ k + digits_value 10 part in
      let back = value_padded k m in
      let front : m / 10 ^ k * 10 ^ k ≡ w * 10 ^ k = ap (λ x. x * 10 ^ k) units_whole in
      same_digits (padded k m) part (digits_padded k m) digits (length_padded k m ∙ sym long) (omega (arith, back, front))

  pub units_joined : s ≡ units_text k (w * 10 ^ k + digits_value 10 part)
  units_joined =
      sym (take-append-drop p s)
      ∙ (λ i. whole i ++ point i)
      ∙ sym (λ i. decimal (units_whole i) ++ 46 ∷ same i)
      ∙ sym (units_parts k (w * 10 ^ k + digits_value 10 part) some)

-- one text, one number
pub units_same : (k n m : ℕ) → n / 10 ^ k < bound → m / 10 ^ k < bound → units_text k n ≡ units_text k m → n ≡ m
units_same zero n m p q e =
    let a : n / 10 ^ 0 ≡ m / 10 ^ 0 = decimal_injective (n / 10 ^ 0) (m / 10 ^ 0) (omega arith) (omega arith) (append_cancel_right _ _ [] e) in
    omega (arith, a)
units_same (suc k) n m p q e =
    let pos : 0 < suc k = omega arith in
    let s = units_text (suc k) n in
    let at = length (decimal (n / 10 ^ suc k)) in
    let long = units_length (suc k) n pos in
    let whole : n / 10 ^ suc k ≡ m / 10 ^ suc k =
    decimal_injective _ _ (omega arith) (omega arith) (sym (whole_there (suc k) n pos at s refl long) ∙ whole_there (suc k) m pos at s e long) in
    let part = ap (λ l. digits_value 10 (drop 1 l)) (sym (part_there (suc k) n pos at s refl long) ∙ part_there (suc k) m pos at s e long) in
    let power = ap (λ x. x * 10 ^ suc k) whole in
    omega (arith, part, power, value_padded (suc k) n, value_padded (suc k) m)

-- the first byte is a digit
pub units_first : (k n : ℕ) → n / 10 ^ k < bound → IsInRange 48 57 (get_or (units_text k n) 0 0)
units_first k n small =
    let some = some_digits (n / 10 ^ k) small in
    rw get_or_append_left (digit_at (decimal (n / 10 ^ k)) 0 (all_digits (n / 10 ^ k) small) some)

-- so it is no minus
pub minus_not_units : (k n : ℕ) (s : List ℕ) → n / 10 ^ k < bound → units_text k n ≡ 45 ∷ s → ⊥
minus_not_units k n s small e = omega (arith, (units_first k n small).0, ap (λ l. get_or l 0 0) e)
