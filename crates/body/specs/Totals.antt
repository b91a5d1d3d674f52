-- A total: reads a first to a last cell in order and writes their sum to a target.
use Rattle.std.specs.Prelude.{ℕ, zero, suc, ◌+◌, ◌-◌, max, cond, ℤ, pos, ◌+ℤ◌, nat_le, nat_lt}
use Rattle.std.specs.Int.{saturate_to_bits}
use Rattle.body.specs.declared.body.Body.{Ghosts}
use Rattle.body.specs.declared.request.Request.{Request}
use Rattle.body.specs.declared.request.Request.TheVariants as requests
use Rattle.body.specs.declared.sum.Total.{Total}
use Rattle.body.specs.declared.sum.TotalStep.{TotalStep}
use Rattle.body.specs.declared.sum.TotalStep.TheVariants.{Read, Write, Done}
use Rattle.body.specs.Plans.{Plan, read, write, end}
use Rattle.money.specs.Amounts.{within_limit}

-- Writes the sum, unless it is beyond the limit.
abbrev pub sum_written : ℕ → ℤ → Plan (Unit {0})
sum_written target sum = cond (within_limit sum) (write target sum (end tt)) (end tt)

-- Reads n cells from this one on, and ends at an amount beyond the limit.
abbrev pub summed : ℕ → ℕ → ℕ → ℤ → Plan (Unit {0})
summed zero cell target sum = sum_written target sum
summed (suc n) cell target sum = read cell (λ a. cond (within_limit a) (summed n (suc cell) target (sum +ℤ a)) (end tt))

abbrev pub total_plan : ℕ → ℕ → ℕ → Plan (Unit {0})
total_plan first last target = summed (suc (last - first)) first target (pos 0)

-- What a total holds and asks, step by step.
abbrev pub stepped : Total → TotalStep → Total
stepped t s = record { first = t.first; last = t.last; target = t.target; step = s }

-- The step, where it keeps the laws, and the end in the place of any other.
abbrev pub kept_step : ℕ → TotalStep → TotalStep
kept_step last (Read at sum) = cond (nat_le at last) (Read at sum) Done
kept_step last (Write sum) = cond (within_limit sum) (Write sum) Done
kept_step last Done = Done

abbrev pub total_asks_at : ℕ → ℕ → TotalStep → Request
total_asks_at last target (Read at sum) = cond (nat_le at last) (requests.Read at) requests.End
total_asks_at last target (Write sum) = cond (within_limit sum) (requests.Write target sum) requests.End
total_asks_at last target Done = requests.End

abbrev pub total_asks : Total → Request
total_asks t = total_asks_at t.last t.target t.step

-- After an amount at this cell: the next cell, the write, or the end. The sum of a total that was made never saturates.
abbrev pub sum_known : ℤ → TotalStep
sum_known sum = cond (within_limit sum) (Write sum) Done

abbrev pub sum_next : ℕ → ℕ → ℤ → TotalStep
sum_next last at sum = cond (nat_lt at last) (Read (at + 1) sum) (sum_known sum)

abbrev pub sum_told : ℕ → ℕ → ℤ → ℤ → TotalStep
sum_told last at sum a = cond (within_limit a) (sum_next last at (saturate_to_bits 63 (sum +ℤ a))) Done

abbrev pub total_told_at : ℕ → ℤ → TotalStep → TotalStep
total_told_at last a (Read at sum) = cond (nat_le at last) (sum_told last at sum a) (Read at sum)
total_told_at last a (Write sum) = Write sum
total_told_at last a Done = Done

abbrev pub total_told : Total → ℤ → Total
total_told t a = stepped t (total_told_at t.last a t.step)

abbrev pub total_taken_at : TotalStep → TotalStep
total_taken_at (Read at sum) = Read at sum
total_taken_at (Write sum) = cond (within_limit sum) Done (Write sum)
total_taken_at Done = Done

abbrev pub total_taken : Total → Total
total_taken t = stepped t (total_taken_at t.step)

abbrev pub total_begin : Total → Total
total_begin t = stepped t (Read t.first (pos 0))

abbrev pub total_left_at : ℕ → TotalStep → ℕ
total_left_at last (Read at sum) = cond (nat_le at last) (last - at + 2) 0
total_left_at last (Write sum) = cond (within_limit sum) 1 0
total_left_at last Done = 0

abbrev pub total_left : Total → ℕ
total_left t = total_left_at t.last t.step

abbrev pub total_reach : Total → ℕ
total_reach t = max t.last t.target + 1

abbrev pub total_len : Total → ℕ
total_len t = t.last - t.first + 2

abbrev pub total_members : Ghosts Total
total_members = record {
  asks = total_asks;
  told = total_told;
  taken = total_taken;
  begin = total_begin;
  left = total_left;
  reach = total_reach;
  len = total_len;
  KIND = 2;
}
