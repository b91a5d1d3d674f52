-- What the makers of totals and scripts promise: the plan that the body follows from its start on, and what it does alone.
use Rattle.std.specs.Prelude.{◌≡◌, ℕ, ◌+◌, ◌-◌, ◌<◌, ◌≤◌, max, List, [], ◌∷◌, length, ℤ, pos, Result, MatchResult}
use Rattle.std.specs.List.{AllByRecursion}
use Rattle.body.specs.declared.body.Body.{Ghosts}
use Rattle.body.specs.declared.steps.Script.{Script}
use Rattle.body.specs.declared.steps.ScriptRefusal.{ScriptRefusal}
use Rattle.body.specs.declared.steps.ScriptRefusal.TheVariants.{TooMany, BadStep}
use Rattle.body.specs.declared.steps.ScriptStep.{ScriptStep}
use Rattle.body.specs.declared.steps.ScriptStep.TheVariants.{Read, Put, Carry}
use Rattle.body.specs.declared.sum.Total.{Total}
use Rattle.body.specs.declared.sum.TotalRefusal.{TotalRefusal}
use Rattle.body.specs.Meaning.{Within}
use Rattle.body.specs.Outcomes.{scripted, totalled}
use Rattle.body.specs.Plans.{Plan, Done, Follows, RunsAlone}
use Rattle.body.specs.Scripts.{script_plan, script_members}
use Rattle.body.specs.Totals.{total_plan, total_members}

-- The highest cell.
abbrev pub top_cell : ℕ
top_cell = 4095

-- A body that stands at its start and follows this plan whatever it is told. Alone, on cells that go as far as its reach,
-- it does just this. Its reach and its length are these.
pub record Made {B R : Type 0} (m : Ghosts B) (result : B → R) (plan : Plan R) (does : List ℤ → Done R) (reach len : ℕ) (b : B) : Type 0 where
  pub starts : m.begin b ≡ b
  pub follows : Follows m result plan b
  pub alone : (cells : List ℤ) → reach ≤ length cells → RunsAlone m result b does cells
  pub reaches : m.reach b ≡ reach
  pub lasts : m.len b ≡ len

abbrev pub no_result : {B : Type 0} → B → Unit {0}
no_result b = tt

-- A range that does not run backward, of cells that there are.
abbrev pub TotalCan : ℕ → ℕ → ℕ → Type 0
TotalCan first last target = (first ≤ last) × (last ≤ top_cell) × (target ≤ top_cell)

abbrev pub MakesTotal : ℕ → ℕ → ℕ → Result Total TotalRefusal → Type 0
MakesTotal first last target r =
    MatchResult r
    (λ t. TotalCan first last target × Made total_members no_result (total_plan first last target) (totalled first last target) (max last target + 1) (last - first + 2) t)
    (λ _. TotalCan first last target → ⊥)

abbrev pub total_refusal_number : TotalRefusal → ℕ
total_refusal_number r = 70

-- A step that names a cell that there is, and puts an amount within the limit.
abbrev pub SoundStep : ScriptStep → Type 0
SoundStep (Read cell) = cell ≤ top_cell
SoundStep (Put cell amount) = (cell ≤ top_cell) × Within amount
SoundStep (Carry cell) = cell ≤ top_cell

-- The cell that a step names, plus 1.
abbrev pub step_reach : ScriptStep → ℕ
step_reach (Read cell) = cell + 1
step_reach (Put cell amount) = cell + 1
step_reach (Carry cell) = cell + 1

-- The highest cell that the steps name, plus 1, or 0 where there is none.
abbrev pub steps_reach : List ScriptStep → ℕ
steps_reach [] = 0
steps_reach (step ∷ steps) = max (step_reach step) (steps_reach steps)

-- The most steps of a script.
abbrev pub most_steps : ℕ
most_steps = 16

abbrev pub ScriptRefused : List ScriptStep → ScriptRefusal → Type 0
ScriptRefused steps TooMany = most_steps < length steps
ScriptRefused steps BadStep = (length steps ≤ most_steps) × (AllByRecursion SoundStep steps → ⊥)

abbrev pub MakesScript : List ScriptStep → Result Script ScriptRefusal → Type 0
MakesScript steps r =
    MatchResult r
    (λ s. (length steps ≤ most_steps) × AllByRecursion SoundStep steps × Made script_members no_result (script_plan steps (pos 0)) (scripted steps (pos 0)) (steps_reach steps) (length steps) s)
    (ScriptRefused steps)

abbrev pub script_refusal_number : ScriptRefusal → ℕ
script_refusal_number TooMany = 71
script_refusal_number BadStep = 72
