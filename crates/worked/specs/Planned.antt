-- A body that is a plan itself. The makers of scripts, totals and imports promise that a body follows its plan whatever it is
-- told, so what the worked examples compute with a plan is what they come to with the body of that plan.
use Rattle.std.specs.Prelude.{ℕ, ◌+◌, ◌-◌, max, List, length, ℤ, pos}
use Rattle.body.specs.declared.body.Body.{Ghosts}
use Rattle.body.specs.declared.request.Request.{Request}
use Rattle.body.specs.declared.request.Request.TheVariants.{Read, Write, End}
use Rattle.body.specs.Plans.{Plan, read, write, end, Follows}
use Rattle.body.specs.Imports.{import_plan}
use Rattle.imports.specs.declared.posting.Posting.{Posting}
use Rattle.imports.specs.Texts.{reach, total_length}
use Rattle.body.specs.declared.steps.ScriptStep.{ScriptStep}
use Rattle.body.specs.Makers.{steps_reach}
use Rattle.body.specs.Scripts.{script_plan}
use Rattle.body.specs.Totals.{total_plan}

-- The plan from the start, what is left of it, and the reach and the length that its maker promises.
pub record Planned (R : Type 0) : Type 0 where
  pub start : Plan R
  pub now : Plan R
  pub names : ℕ
  pub lasts : ℕ

abbrev pub at_start : {R : Type 0} → Plan R → ℕ → ℕ → Planned R
at_start p n l = record { start = p; now = p; names = n; lasts = l }

abbrev pub go_on : {R : Type 0} → Planned R → Plan R → Planned R
go_on b p = record { start = b.start; now = p; names = b.names; lasts = b.lasts }

-- What a plan asks, and what is left of it once it is answered.
abbrev pub plan_asks : {R : Type 0} → Plan R → Request
plan_asks (read c next) = Read c
plan_asks (write c v next) = Write c v
plan_asks (end r) = End

abbrev pub plan_told : {R : Type 0} → Plan R → ℤ → Plan R
plan_told (read c next) a = next a
plan_told (write c v next) a = write c v next
plan_told (end r) a = end r

abbrev pub plan_taken : {R : Type 0} → Plan R → Plan R
plan_taken (read c next) = read c next
plan_taken (write c v next) = next
plan_taken (end r) = end r

-- Bodies of this kind. No step asks how many requests are still to come.
abbrev pub planned : {R : Type 0} → ℕ → Ghosts (Planned R)
planned kind = record {
  asks = λ b. plan_asks b.now;
  told = λ b a. go_on b (plan_told b.now a);
  taken = λ b. go_on b (plan_taken b.now);
  begin = λ b. go_on b b.start;
  left = λ b. b.lasts;
  reach = λ b. b.names;
  len = λ b. b.lasts;
  KIND = kind;
}

-- The result of what is left of a plan, which counts at its end.
abbrev pub ends_as : {R : Type 0} → R → Planned R → R
ends_as none b = elim b.now [ read c next ↦ none | write c v next ↦ none | end r ↦ r ]

-- A body that is a plan does follow it, from its start on.
abbrev pub FollowsItself : Type 0 → Type 0
FollowsItself R = (kind n l : ℕ) (none : R) (p : Plan R) → Follows (planned kind) (ends_as none) p (at_start p n l)

-- The bodies of the examples.
abbrev pub script : List ScriptStep → Planned (Unit {0})
script steps = at_start (script_plan steps (pos 0)) (steps_reach steps) (length steps)

abbrev pub total : ℕ → ℕ → ℕ → Planned (Unit {0})
total first last target = at_start (total_plan first last target) (max last target + 1) (last - first + 2)

abbrev pub importing : List Posting → Planned ℕ
importing ps = at_start (import_plan ps 0) (reach ps) (total_length ps)
