-- A script keeps the laws, and follows its plan. Assumes nothing.
use Rattle.std.specs.Prelude.{◌≡◌, ℕ, ◌+◌, ◌-◌, ◌<◌, ◌≤◌, max, Bool, true, false, cond, List, [], ◌∷◌, ◌++◌, length, drop, ℤ, pos, vec_items, ◌≢◌, nat_lt, unsigned_abs, refl}
use Rattle.std.proofs.Common.{sym, ap, subst, ◌∙◌, ⊎_elim, arith}
use Rattle.std.specs.List.{AllByRecursion}
use Rattle.std.proofs.lemmas.List.{drop_all, drop-drop}
use Rattle.std.proofs.lemmas.Bool.{cases_lt, lt-ltb, le-leb, and_from, and_right}
use Rattle.money.specs.Amounts.{limit, within_limit}
use Rattle.body.specs.declared.request.Request.{Request}
use Rattle.body.specs.declared.request.Request.TheVariants.{Read, Write, End}
use Rattle.body.specs.declared.steps.Script.{Script}
use Rattle.body.specs.declared.steps.ScriptStep.{ScriptStep}
use Rattle.body.specs.declared.steps.ScriptStep.TheVariants as steps
use Rattle.body.specs.Makers.{SoundStep, step_reach, steps_reach, no_result}
use Rattle.body.specs.Meaning.{Lawful}
use Rattle.body.specs.Plans.{Plan, write, end, Follows}
use Rattle.body.specs.Scripts.{step_asks, steps_ask, script_asks, script_at, script_told, script_taken, script_begin, script_left, script_reach, script_len, script_plan, script_members}
use Rattle.body.specs.Tests.{kept, on_read, on_write}
use Rattle.body.specs.Guarded.{Counts, lawful}

abbrev raw : Script → Request
raw s = steps_ask s.carried (drop s.done (vec_items s.steps))

abbrev weight : Script → ℕ
weight s = length (vec_items s.steps) - s.done

-- a script that asks for something has a step left
pub some_left : (s : Script) (r : Request) → script_asks s ≡ r → (r ≢ End) → s.done < length (vec_items s.steps)
some_left s r e n =
    ⊎_elim (λ h. h) (λ past. absurd (n (sym e ∙ ap (λ l. kept s.reach (steps_ask s.carried l)) (drop_all s.done (vec_items s.steps) past)))) (cases_lt s.done (length (vec_items s.steps)))

pub counts : Counts raw (λ s a. script_at s (s.done + 1) a) (λ s. script_at s (s.done + 1) s.carried) script_begin weight script_reach script_len
counts = record {
  lower_read = λ s a c e. omega (arith, some_left s (Read c) e (λ x. cc));
  lower_write = λ s c v e. omega (arith, some_left s (Write c v) e (λ x. cc));
  few = λ s. omega arith;
  same_read = λ s a. record { start = refl; reaches = refl; lasts = refl };
  same_write = λ s. record { start = refl; reaches = refl; lasts = refl };
  same_start = λ s. record { start = refl; reaches = refl; lasts = refl };
}

-- the laws
pub script_lawful : Lawful script_asks script_told script_taken script_begin script_left script_reach script_len
script_lawful = lawful _ _ _ _ _ _ _ counts

-- one step more at the end
pub reach_push : (ss : List ScriptStep) (x : ScriptStep) → steps_reach (ss ++ x ∷ []) ≡ max (step_reach x) (steps_reach ss)
reach_push [] x = omega arith
reach_push (s ∷ ss) x = omega (arith, reach_push ss x)

-- steps that name cells below a reach
abbrev Below : ℕ → ScriptStep → Type 0
Below reach s = SoundStep s × (step_reach s ≤ reach)

below_all : (reach : ℕ) (ss : List ScriptStep) → AllByRecursion SoundStep ss → steps_reach ss ≤ reach → AllByRecursion (Below reach) ss
below_all reach [] h le = tt
below_all reach (s ∷ ss) h le = ((h.0, omega arith), below_all reach ss h.1 (omega arith))

pub kept_read : (reach c : ℕ) → c < reach → kept reach (Read c) ≡ Read c
kept_read reach c h = ap (λ b. cond b (Read c) End) (lt-ltb c reach h)

pub kept_write : (reach c : ℕ) (v : ℤ) → c < reach → within_limit v ≡ true → kept reach (Write c v) ≡ Write c v
kept_write reach c v h w = ap (λ b. cond b (Write c v) End) (and_from (nat_lt c reach) (within_limit v) (lt-ltb c reach h) w)

kept_beyond : (reach c : ℕ) (v : ℤ) → within_limit v ≡ false → kept reach (Write c v) ≡ End
kept_beyond reach c v w = ap (λ b. cond b (Write c v) End) (and_right (nat_lt c reach) (within_limit v) w)

module _ (s : Script) where
  abbrev At : Plan (Unit {0}) → ℕ → ℤ → Type 0
  At p done carried = Follows script_members no_result p (script_at s done carried)

  asked : (done : ℕ) (carried : ℤ) (x : ScriptStep) (ss : List ScriptStep) (r : Request) → drop done (vec_items s.steps) ≡ x ∷ ss → kept s.reach (step_asks carried x) ≡ r → script_asks (script_at s done carried) ≡ r
  asked done carried x ss r e k = ap (λ l. kept s.reach (steps_ask carried l)) e ∙ k

  next : (done : ℕ) (x : ScriptStep) (ss : List ScriptStep) → drop done (vec_items s.steps) ≡ x ∷ ss → drop (done + 1) (vec_items s.steps) ≡ ss
  next done x ss e = sym (drop-drop 1 done (vec_items s.steps)) ∙ ap (drop 1) e

  -- a step that writes, and what follows it
  wrote : (done : ℕ) (carried : ℤ) (c : ℕ) (v : ℤ) (p : Plan (Unit {0})) → script_asks (script_at s done carried) ≡ Write c v → At p (done + 1) carried → At (write c v p) done carried
  wrote done carried c v p e rest =
      (e, subst (λ r. Follows script_members no_result p (on_write r (script_at s (done + 1) carried) (script_at s done carried))) (sym e) rest)

  pub follows_steps : (ss : List ScriptStep) (done : ℕ) (carried : ℤ) → drop done (vec_items s.steps) ≡ ss → AllByRecursion (Below s.reach) ss → At (script_plan ss carried) done carried
  follows_steps [] done carried e h = (ap (λ l. kept s.reach (steps_ask carried l)) e, refl)
  follows_steps (steps.Read c ∷ ss) done carried e h =
      let ask = asked done carried (steps.Read c) ss (Read c) e (kept_read s.reach c (omega (arith, h.0.1))) in
      (ask, λ a. subst (λ r. Follows script_members no_result (script_plan ss a) (on_read r (script_at s (done + 1) a) (script_at s done carried))) (sym ask) (follows_steps ss (done + 1) a (next done (steps.Read c) ss e) h.1))
  follows_steps (steps.Put c v ∷ ss) done carried e h =
      wrote done carried c v (script_plan ss carried)
      (asked done carried (steps.Put c v) ss (Write c v) e (kept_write s.reach c v (omega (arith, h.0.1)) (le-leb (unsigned_abs v) limit h.0.0.1)))
      (follows_steps ss (done + 1) carried (next done (steps.Put c v) ss e) h.1)
  follows_steps (steps.Carry c ∷ ss) done carried e h =
      carry (within_limit carried) refl (follows_steps ss (done + 1) carried (next done (steps.Carry c) ss e) h.1)
    where
      carry : (b : Bool) → within_limit carried ≡ b → At (script_plan ss carried) (done + 1) carried → At (cond b (write c carried (script_plan ss carried)) (end tt)) done carried
      carry true w rest =
          wrote done carried c carried (script_plan ss carried)
          (asked done carried (steps.Carry c) ss (Write c carried) e (kept_write s.reach c carried (omega (arith, h.0.1)) w)) rest
      carry false w rest = (asked done carried (steps.Carry c) ss End e (kept_beyond s.reach c carried w), refl)

-- a script whose steps are sound follows its plan from its start on
pub follows_script : (s : Script) → AllByRecursion SoundStep (vec_items s.steps) → s.reach ≡ steps_reach (vec_items s.steps) → Follows script_members no_result (script_plan (vec_items s.steps) (pos 0)) (script_begin s)
follows_script s sound is = follows_steps s (vec_items s.steps) 0 (pos 0) refl (below_all s.reach (vec_items s.steps) sound (omega arith))
