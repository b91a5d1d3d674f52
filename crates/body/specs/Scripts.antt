-- A script: reads cells, puts fixed amounts into cells, and carries the amount read last to cells.
use Rattle.std.specs.Prelude.{ℕ, ◌+◌, ◌-◌, cond, List, [], ◌∷◌, length, drop, ℤ, pos, vec_items}
use Rattle.body.specs.declared.body.Body.{Ghosts}
use Rattle.body.specs.declared.request.Request.{Request}
use Rattle.body.specs.declared.request.Request.TheVariants as requests
use Rattle.body.specs.declared.steps.Script.{Script}
use Rattle.body.specs.declared.steps.ScriptStep.{ScriptStep}
use Rattle.body.specs.declared.steps.ScriptStep.TheVariants.{Read, Put, Carry}
use Rattle.body.specs.Plans.{Plan, read, write, end}
use Rattle.body.specs.Tests.{kept, on_read, on_write, unless_end}
use Rattle.money.specs.Amounts.{within_limit}

-- The steps in order, with the amount read last. A carried amount beyond the limit ends the script.
abbrev pub script_plan : List ScriptStep → ℤ → Plan (Unit {0})
script_plan [] carried = end tt
script_plan (Read cell ∷ steps) carried = read cell (λ a. script_plan steps a)
script_plan (Put cell amount ∷ steps) carried = write cell amount (script_plan steps carried)
script_plan (Carry cell ∷ steps) carried = cond (within_limit carried) (write cell carried (script_plan steps carried)) (end tt)

-- What a script holds and asks, step by step.
abbrev pub step_asks : ℤ → ScriptStep → Request
step_asks carried (Read cell) = requests.Read cell
step_asks carried (Put cell amount) = requests.Write cell amount
step_asks carried (Carry cell) = requests.Write cell carried

abbrev pub steps_ask : ℤ → List ScriptStep → Request
steps_ask carried [] = requests.End
steps_ask carried (step ∷ steps) = step_asks carried step

abbrev pub script_asks : Script → Request
script_asks s = kept s.reach (steps_ask s.carried (drop s.done (vec_items s.steps)))

abbrev pub script_at : Script → ℕ → ℤ → Script
script_at s done carried = record { steps = s.steps; reach = s.reach; done = done; carried = carried }

abbrev pub script_told : Script → ℤ → Script
script_told s a = on_read (script_asks s) (script_at s (s.done + 1) a) s

abbrev pub script_taken : Script → Script
script_taken s = on_write (script_asks s) (script_at s (s.done + 1) s.carried) s

abbrev pub script_begin : Script → Script
script_begin s = script_at s 0 (pos 0)

abbrev pub script_left : Script → ℕ
script_left s = unless_end (script_asks s) (length (vec_items s.steps) - s.done)

abbrev pub script_reach : Script → ℕ
script_reach s = s.reach

abbrev pub script_len : Script → ℕ
script_len s = length (vec_items s.steps)

abbrev pub script_members : Ghosts Script
script_members = record {
  asks = script_asks;
  told = script_told;
  taken = script_taken;
  begin = script_begin;
  left = script_left;
  reach = script_reach;
  len = script_len;
  KIND = 3;
}
