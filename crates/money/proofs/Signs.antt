-- Amounts with a sign, from amounts with none. Assumes nothing.
use Rattle.std.proofs.Common.{◌≡◌, ℕ, zero, suc, ◌-◌, ◌/◌, ◌^◌, ◌<◌, ◌≤◌, List, ◌∷◌, drop, pos, negsuc, ◌-ℤ◌, sym, ap, ◌∙◌, subst, div-lt_iff_lt-mul, arith, w64, to_z, of_z}
use native.Mathlib.Nat.{pow-le-pow_right}
use Rattle.std.proofs.lemmas.Nat.{mul-le}
use Rattle.std.proofs.lemmas.Int.{to_z_pos, to_z-of_z, ints}
use Rattle.money.specs.Amounts.{bound, units_text, Writes, Malformed}
use Rattle.money.proofs.Units.{units_same, minus_not_units}

pub ten_power : (k : ℕ) → k ≤ 2 → 10 ^ k ≤ 100
ten_power k h = pow-le-pow_right {n = 10} (omega arith) h

positive_power : (k : ℕ) → 0 < 10 ^ k
positive_power k = pow-le-pow_right {n = 10} (omega arith) {i = 0} {j = k} (omega arith)

-- an amount with at most two digits after the point fits 64 bits with a sign
pub units_fit : (k n : ℕ) → k ≤ 2 → n / 10 ^ k < bound → n < 2 ^ 63
units_fit k n h small =
    omega (arith, (div-lt_iff_lt-mul (positive_power k)).0 small, mul-le bound (10 ^ k) bound 100 (omega arith) (ten_power k h))

pub negated : (n : ℕ) → 0 < n → n < 2 ^ 63 → to_z w64 (of_z w64 (pos 0 -ℤ to_z w64 n)) ≡ negsuc (n - 1)
negated zero some fits = absurd (omega arith)
negated (suc n) some fits =
    let back : suc n - 1 ≡ n = omega arith in
    let below : pos 0 -ℤ pos (suc n) ≡ negsuc n = omega (arith, ints) in
    ap (λ z. to_z w64 (of_z w64 (pos 0 -ℤ z))) (to_z_pos w64 (suc n) fits)
    ∙ ap (λ z. to_z w64 (of_z w64 z)) below
    ∙ to_z-of_z w64 (negsuc n) (record { sfits = omega arith })
    ∙ ap negsuc (sym back)

-- a text behind a minus
module _ (k : ℕ) (s : List ℕ) {rest : List ℕ} (minus : s ≡ 45 ∷ rest) where
  pub minus_none : ((n : ℕ) → n / 10 ^ k < bound → rest ≡ units_text k n → ⊥) → Malformed k s
  minus_none none (pos n) w = minus_not_units k n rest w.0 (sym w.1 ∙ minus)
  minus_none none (negsuc n) w = none (suc n) w.0 (ap (drop 1) (sym minus ∙ w.1))

  pub minus_zero : 0 / 10 ^ k < bound → rest ≡ units_text k 0 → Malformed k s
  minus_zero small e (pos n) w = minus_not_units k n rest w.0 (sym w.1 ∙ minus)
  minus_zero small e (negsuc n) w =
      let z = units_same k 0 (suc n) small w.0 (sym e ∙ ap (drop 1) (sym minus ∙ w.1)) in
      omega (arith, z)

  pub minus_some : (n : ℕ) → 0 < n → n / 10 ^ k < bound → rest ≡ units_text k n → Writes k s (negsuc (n - 1))
  minus_some n some small e =
      let back : suc (n - 1) ≡ n = omega arith in (
        subst (λ m. m / 10 ^ k < bound) (sym back) small,
        minus ∙ ap (λ l. 45 ∷ l) (e ∙ ap (units_text k) (sym back)),
      )
