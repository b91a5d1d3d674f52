-- A total follows its plan, and what the plan does alone. Assumes nothing.
use Rattle.std.proofs.Common.{◌≡◌, ℕ, zero, suc, ◌+◌, ◌-◌, ◌*◌, ◌^◌, ◌<◌, ◌≤◌, Bool, true, false, cond, ℤ, pos, negsuc, ◌+ℤ◌, nat_abs, sym, refl, ap, ◌∙◌, subst, add-one, arith}
use Rattle.std.specs.Int.{saturate_to_bits}
use Rattle.std.proofs.lemmas.Int.{ints}
use Rattle.std.proofs.lemmas.Bool.{le-leb, lt-ltb, le-ltb, leb-true}
use Rattle.money.specs.Amounts.{limit, within_limit}
use Rattle.body.specs.declared.request.Request.TheVariants as requests
use Rattle.body.specs.declared.sum.Total.{Total}
use Rattle.body.specs.declared.sum.TotalStep.{TotalStep}
use Rattle.body.specs.declared.sum.TotalStep.TheVariants.{Read, Write, Done}
use Rattle.body.specs.Plans.{Plan, write, end, Follows}
use Rattle.body.specs.Totals.{sum_written, summed, total_plan, stepped, sum_known, sum_next, total_told_at, total_members}

-- a number that fits is not changed by a sum that stops at the bounds
pub saturated_fits : (z : ℤ) → nat_abs z < 2 ^ 63 → saturate_to_bits 63 z ≡ z
saturated_fits (pos n) h = ap pos (omega arith)
saturated_fits (negsuc n) h = ap negsuc (omega arith)

abbrev pub nothing : Total → Unit {0}
nothing t = tt

-- there is room for n more amounts within the limit
abbrev Room : ℕ → ℤ → Type 0
Room n sum = nat_abs sum + n * limit < 2 ^ 63

pub magnitude_of_sum : (x y : ℤ) → nat_abs (x +ℤ y) ≤ nat_abs x + nat_abs y
magnitude_of_sum x y = grind (arith, ints)

module _ (t : Total) where
  abbrev pub At : Plan (Unit {0}) → TotalStep → Type 0
  At p s = Follows total_members nothing p (stepped t s)

  done : At (end tt) Done
  done = (refl, refl)

  written : (sum : ℤ) (b : Bool) → within_limit sum ≡ b → At (cond b (write t.target sum (end tt)) (end tt)) (cond b (Write sum) Done)
  written sum true e = (ap (λ b. cond b (requests.Write t.target sum) requests.End) e, subst (λ b. At (end tt) (cond b Done (Write sum))) (sym e) done)
  written sum false e = done

  -- the next step after an amount within the limit
  moved : (at : ℕ) (sum a : ℤ) → at ≤ t.last → within_limit a ≡ true → nat_abs (sum +ℤ a) < 2 ^ 63 → total_told_at t.last a (Read at sum) ≡ sum_next t.last at (sum +ℤ a)
  moved at sum a here good fits = rw (le-leb at t.last here, good, saturated_fits (sum +ℤ a) fits) refl

  stopped : (at : ℕ) (sum a : ℤ) → at ≤ t.last → within_limit a ≡ false → total_told_at t.last a (Read at sum) ≡ Done
  stopped at sum a here bad = rw (le-leb at t.last here, bad) refl

  room_left : (n : ℕ) (sum a : ℤ) → Room (suc n) sum → within_limit a ≡ true → Room n (sum +ℤ a)
  room_left n sum a room good = omega (arith, room, magnitude_of_sum sum a, leb-true (nat_abs a) limit good)

  pub follows_sum : (n at : ℕ) (sum : ℤ) → t.last ≡ at + n → Room (suc n) sum → At (summed (suc n) at t.target sum) (Read at sum)
  follows_sum zero at sum is room = (
    ap (λ b. cond b (requests.Read at) requests.End) (le-leb at t.last (omega arith)),
    λ a. last a (within_limit a) refl,
  )
    where
      last : (a : ℤ) (b : Bool) → within_limit a ≡ b → At (cond b (sum_written t.target (sum +ℤ a)) (end tt)) (total_told_at t.last a (Read at sum))
      last a true e =
          let next = moved at sum a (omega arith) e (omega (arith, room_left 0 sum a room e)) ∙ ap (λ b. cond b (Read (at + 1) (sum +ℤ a)) (sum_known (sum +ℤ a))) (le-ltb at t.last (omega arith)) in
          subst (At (sum_written t.target (sum +ℤ a))) (sym next) (written (sum +ℤ a) (within_limit (sum +ℤ a)) refl)
      last a false e = subst (At (end tt)) (sym (stopped at sum a (omega arith) e)) done
  follows_sum (suc n) at sum is room = (
    ap (λ b. cond b (requests.Read at) requests.End) (le-leb at t.last (omega arith)),
    λ a. on a (within_limit a) refl (λ e. follows_sum n (suc at) (sum +ℤ a) (omega arith) (room_left (suc n) sum a room e)),
  )
    where
      on : (a : ℤ) (b : Bool) → within_limit a ≡ b → (within_limit a ≡ true → At (summed (suc n) (suc at) t.target (sum +ℤ a)) (Read (suc at) (sum +ℤ a))) → At (cond b (summed (suc n) (suc at) t.target (sum +ℤ a)) (end tt)) (total_told_at t.last a (Read at sum))
      on a true e rest =
          let next = moved at sum a (omega arith) e (omega (arith, room_left (suc n) sum a room e)) ∙ ap (λ b. cond b (Read (at + 1) (sum +ℤ a)) (sum_known (sum +ℤ a))) (lt-ltb at t.last (omega arith)) ∙ ap (λ k. Read k (sum +ℤ a)) (add-one at) in
          subst (At (summed (suc n) (suc at) t.target (sum +ℤ a))) (sym next) (rest e)
      on a false e rest = subst (At (end tt)) (sym (stopped at sum a (omega arith) e)) done

-- a total whose range does not run backward follows its plan from its start on
pub follows_total : (t : Total) → t.first ≤ t.last → t.last ≤ 4095 → At t (total_plan t.first t.last t.target) (Read t.first (pos 0))
follows_total t order few = follows_sum t (t.last - t.first) t.first (pos 0) (omega arith) (omega arith)
