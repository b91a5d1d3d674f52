-- How many steps: a helper in the lane, and the master once it has reserved.
use Rattle.std.proofs.Common.{◌≡◌, ℕ, suc, ◌+◌, ◌*◌, ◌%◌, ◌<◌, ◌≤◌, Bool, true, false, cond, eqb, ltb, ◌⊎◌, List, [], ◌∷◌, ◌++◌, length, get_or, ℤ, Some, None, Option, sym, refl, ap, ◌∙◌, subst, inl, inr, ⊎_elim, arith}
use mathlib.Core.Bool.{false≢true}
use Rattle.std.proofs.lemmas.Bool.{eqb-true, eq-eqb, cond_both}
use Rattle.body.specs.declared.body.Body.{Ghosts}
use Rattle.lane.specs.declared.answer.Answer.{Answer}
use Rattle.body.specs.Serial.{Commit}
use Rattle.lane.specs.declared.told.Told.{Told}
use Rattle.lane.specs.History.{Call, seated, stepped, other, Moment, History, commits, steps_of}
use Rattle.lane.specs.Law.{Opening, Takes, Gives}
use Rattle.lane.specs.declared.phase.Phase.{Phase}
use Rattle.lane.specs.declared.phase.Phase.TheVariants.{Reserve, MasterLook, Take, MasterRun, Put, Begin, Run, Check, Wait, Look, Prevalidate, Swap, Validate, Mark, Cell, Release, LetGo, Quit, Leave}
use Rattle.lane.specs.declared.phase.Way.{Way}
use Rattle.lane.specs.declared.phase.Way.TheVariants.{One, Two, Three}
use Rattle.lane.specs.Logs.{no_entry}
use Rattle.lane.specs.State.{Work, Seat, entries, Core, Shared, stale}
use Rattle.lane.specs.Phases.{does, let_go_step, step_at}
use Rattle.lane.specs.declared.step.Effect.TheVariants.{CellSet}
use Rattle.lane.specs.declared.step.Step.{Step}
use Rattle.lane.proofs.Core.{World, Out, to, act, moment, step_of, step_moment, first_phase, seat_of, pause_of, Ran, opens, seats, steps, pauses, refuses, out_of}
use Rattle.lane.proofs.Bodies.{Laws}
use Rattle.lane.proofs.Inv.{View, holds, holds_seat, Facts, Mine, Moves, quiet, takes, works}
use Rattle.lane.proofs.Steps.{few_entries}
use Rattle.lane.proofs.Frame.{mine_odd}
use Rattle.lane.proofs.Runs.{view_of, Inv, inv, done}

-- The most steps that a helper has taken in the lane
abbrev pub rank : {B : Type 0} → Work B → Phase → ℕ
rank s Reserve = 0
rank s MasterLook = 0
rank s Take = 0
rank s MasterRun = 0
rank s (Put c x) = 0
rank s Begin = 0
rank s Run = 0
rank s (Check c x) = 0
rank s Wait = 0
rank s (Look o) = 0
rank s (Prevalidate c i) = 0
rank s (Swap o c) = 0
rank s (Validate i) = i
rank s (Mark i) = length (entries s) + 2 * i
rank s (Cell i) = length (entries s) + 2 * i + 1
rank s Release = length (entries s) + 2 * length s.writes
rank s LetGo = length (entries s)
rank s Quit = 0
rank s Leave = 0

abbrev pub rank_seat : {B : Type 0} → Option (Seat B) → ℕ
rank_seat None = 0
rank_seat (Some s) = rank s.work s.phase

module _ {B : Type 0} (m : Ghosts B) (σ : List ℤ) (g : Shared) (C : List (Commit B)) (k : ℕ) (s : Work B) (v : View B) where
  -- Gives the lane back, or goes on
  abbrev pub Goes : Phase → Step → Type 0
  Goes p z = let u = out_of m g k s z in (u.shared.core.number % 2 ≡ 0) ⊎ ((holds_seat u.seat ≡ true) × (suc (rank s p) ≤ rank_seat u.seat))

  pub goes : (p : Phase) → 0 < k → holds p ≡ true → Facts m σ g.core g.flag C k s v p → Goes p (step_at m g k s p)
  goes Reserve hk h f = absurd (false≢true h)
  goes MasterLook hk h f = absurd (false≢true h)
  goes Take hk h f = absurd (false≢true h)
  goes MasterRun hk h f = absurd (omega (arith, f.master))
  goes (Put c x) hk h f = absurd (omega (arith, f.0.master))
  goes Begin hk h f = absurd (false≢true h)
  goes Run hk h f = absurd (false≢true h)
  goes (Check c x) hk h f = absurd (false≢true h)
  goes Wait hk h f = absurd (false≢true h)
  goes (Look o) hk h f = absurd (false≢true h)
  goes (Prevalidate c i) hk h f = absurd (false≢true h)
  goes (Swap o c) hk h f = absurd (false≢true h)
  goes (Validate i) hk h f = cond_both (stale g s (get_or (entries s) i 0)) _ _ (Goes (Validate i)) (λ e. inr (refl, f.5)) (λ e. cond_both (ltb (i + 1) (length (entries s))) _ _ (Goes (Validate i)) (λ l. inr (refl, omega arith)) (λ l. inr (refl, omega (arith, f.5))))
  goes (Mark i) hk h f = inr (refl, omega arith)
  goes (Cell i) hk h f = cond_both (ltb (i + 1) (length s.writes)) _ _ (λ p. Goes (Cell i) (does (CellSet (get_or s.writes i no_entry).cell (get_or s.writes i no_entry).amount) p)) (λ l. inr (refl, omega arith)) (λ l. inr (refl, omega (arith, f.1)))
  goes Release hk h f = inl (omega (arith, f.0.odd))
  goes LetGo hk h f = by s.way
    where
      by : (y : Way) → Goes LetGo (let_go_step y)
      by One = inl (omega (arith, f.2))
      by Two = inl (omega (arith, f.2))
      by Three = inl (omega (arith, f.2))
  goes Quit hk h f = absurd (false≢true h)
  goes Leave hk h f = absurd (false≢true h)

  pub rank_few : (p : Phase) → Facts m σ g.core g.flag C k s v p → rank s p ≤ 160
  rank_few Reserve f = omega arith
  rank_few MasterLook f = omega arith
  rank_few Take f = omega arith
  rank_few MasterRun f = omega arith
  rank_few (Put c x) f = omega arith
  rank_few Begin f = omega arith
  rank_few Run f = omega arith
  rank_few (Check c x) f = omega arith
  rank_few Wait f = omega arith
  rank_few (Look o) f = omega arith
  rank_few (Prevalidate c i) f = omega arith
  rank_few (Swap o c) f = omega arith
  rank_few (Validate i) f = let z = few_entries s.reads s.writes f.0.logs.few_reads f.0.logs.few_writes in omega (arith, f.5)
  rank_few (Mark i) f = let z = few_entries s.reads s.writes f.0.logs.few_reads f.0.logs.few_writes in omega (arith, f.1, f.0.logs.few_writes)
  rank_few (Cell i) f = let z = few_entries s.reads s.writes f.0.logs.few_reads f.0.logs.few_writes in omega (arith, f.1, f.0.logs.few_writes)
  rank_few Release f = let z = few_entries s.reads s.writes f.0.logs.few_reads f.0.logs.few_writes in omega (arith, f.0.logs.few_writes)
  rank_few LetGo f = omega (arith, f.5)
  rank_few Quit f = omega arith
  rank_few Leave f = omega arith

pub steps_more : {B : Type 0} (k : ℕ) (x : Moment B) (n : History B) → steps_of k (x ∷ n) ≡ steps_of k (x ∷ []) + steps_of k n
steps_more {B} k x n = by x.call
  where
    by : (c : Call B) → steps_of k (record { call = c; flag = x.flag; number = x.number } ∷ n) ≡ steps_of k (record { call = c; flag = x.flag; number = x.number } ∷ []) + steps_of k n
    by (seated j b) = omega arith
    by (stepped j a t) = by2 (eqb j k)
      where
        by2 : (c : Bool) → cond c (1 + steps_of k n) (steps_of k n) ≡ cond c (1 + 0) 0 + steps_of k n
        by2 true = omega arith
        by2 false = omega arith
    by other = omega arith

module _ {B : Type 0} (m : Ghosts B) (o : Opening) (law : Laws m) where
  abbrev pub NoGiving : ℕ → History B → Moment B → History B → Type 0
  NoGiving k newer e older = (new old : History B) (f : Moment B) → newer ≡ new ++ (f ∷ old) → Gives m o k f (old ++ (e ∷ older)) → ⊥

  -- A helper that took the lane and has not given it back has it, and has not taken more steps than its phase says
  abbrev pub Back : History B → World B → Type 0
  Back h w = (k : ℕ) (newer older : History B) (e : Moment B) → h ≡ newer ++ (e ∷ older) → 0 < k → Takes m o k e older → NoGiving k newer e older → (holds_seat (w.seats k) ≡ true) × (steps_of k newer ≤ rank_seat (w.seats k))

  -- One moment more
  back_more : (h : History B) (w w' : World B) (x : Moment B) → Back h w
      → ((k : ℕ) → 0 < k → Takes m o k x h → holds_seat (w'.seats k) ≡ true)
      → ((k : ℕ) → 0 < k → holds_seat (w.seats k) ≡ true → Gives m o k x h ⊎ ((holds_seat (w'.seats k) ≡ true) × (steps_of k (x ∷ []) + rank_seat (w.seats k) ≤ rank_seat (w'.seats k))))
      → Back (x ∷ h) w'
  back_more h w w' x b start on k [] older e q l t ng =
      let x≡ : e ≡ x = cc in
      let h≡ : older ≡ h = cc in
      (start k l (subst (λ z. Takes m o k x z) h≡ (subst (λ z. Takes m o k z older) x≡ t)), omega arith)
  back_more h w w' x b start on k (y ∷ newer) older e q l t ng =
      let y≡ : y ≡ x = cc in
      let h≡ : h ≡ newer ++ (e ∷ older) = cc in
      let r = b k newer older e h≡ l t (λ new old f p. ng (y ∷ new) old f (ap (λ z. y ∷ z) p)) in
      ⊎_elim
      (λ gv. absurd (ng [] newer y refl (subst (λ z. Gives m o k y z) h≡ (subst (λ z. Gives m o k z h) (sym y≡) gv))))
      (λ c. (c.0, (let z : steps_of k (y ∷ newer) ≡ steps_of k (x ∷ []) + steps_of k newer = ap (λ z. steps_of k (z ∷ newer)) y≡ ∙ steps_more k x newer in omega (arith, r.1, c.1))))
      (on k l r.0)

  no_moment : (newer older : History B) (e : Moment B) → ◌≡◌ {A = History B} [] (newer ++ (e ∷ older)) → ⊥
  no_moment [] older e q = cc
  no_moment (x ∷ newer) older e q = cc

  module _ (h : History B) (w : World B) (i : Inv m o h w) (k : ℕ) (s : Seat B) (at : w.seats k ≡ Some s) where
    abbrev u : Out B
    u = act m w.shared k s.work s.phase

    abbrev e : Moment B
    e = step_moment m w k s

    pub facts : Facts m o.cells w.shared.core w.shared.flag (commits h) k s.work (view_of k h) s.phase
    facts = subst (λ x. Mine m o.cells w.shared.core w.shared.flag (commits h) k (view_of k h) x) at (i.seats k)

    same_seat : (j : ℕ) (a' : Answer) (t' : Told) → ◌≡◌ {A = Call B} (stepped k u.answer u.told) (stepped j a' t') → k ≡ j
    same_seat j a' t' c = by u.answer u.told c
      where
        by : (a : Answer) (t : Told) → ◌≡◌ {A = Call B} (stepped k a t) (stepped j a' t') → k ≡ j
        by a t c = cc

    back_step : Back h w → Back (e ∷ h) (step_of m w k s)
    back_step b = back_more h w (step_of m w k s) e b start on
      where
        start : (j : ℕ) → 0 < j → Takes m o j e h → holds_seat (cond (eqb k j) u.seat (w.seats j)) ≡ true
        start j l t = by (done m o law h w i k s at).moves
          where
            by : Moves m o.cells w.shared (commits h) k s.phase u (commits (e ∷ h)) → holds_seat (cond (eqb k j) u.seat (w.seats j)) ≡ true
            by (quiet q f) = absurd (let z : u.shared.core.number ≡ w.shared.core.number = ap (λ (x : Core). x.number) q.same in omega (arith, t.1, t.2, i.number))
            by (takes ev od q r) = rw (eq-eqb k j (same_seat j t.0.0 t.0.1 t.0.2)) r
            by (works q od) = absurd (omega (arith, t.1, i.number))

        on : (j : ℕ) → 0 < j → holds_seat (w.seats j) ≡ true → Gives m o j e h ⊎ ((holds_seat (cond (eqb k j) u.seat (w.seats j)) ≡ true) × (cond (eqb k j) (1 + 0) 0 + rank_seat (w.seats j) ≤ rank_seat (cond (eqb k j) u.seat (w.seats j))))
        on j l hj = by (eqb k j) refl
          where
            mine : k ≡ j → Gives m o j e h ⊎ ((holds_seat u.seat ≡ true) × (1 + rank_seat (w.seats j) ≤ rank_seat u.seat))
            mine q =
                let at' : w.seats j ≡ Some s = subst (λ z. w.seats z ≡ Some s) q at in
                let hp : holds s.phase ≡ true = subst (λ z. holds_seat z ≡ true) at' hj in
                let od : w.shared.core.number % 2 ≡ 1 = mine_odd m o.cells w.shared.core w.shared.flag (commits h) j (view_of j h) (w.seats j) hj (i.seats j) in
                ⊎_elim
                (λ ev. inl ((u.answer, u.told, ap {B = Call B} (λ x. stepped x u.answer u.told) q), rw i.number od, ev))
                (λ c. inr (c.0, (let z : rank_seat (w.seats j) ≡ rank s.work s.phase = ap (λ y. rank_seat y) at' in omega (arith, c.1))))
                (goes m o.cells w.shared (commits h) k s.work (view_of k h) s.phase (omega arith) hp facts)

            by : (c : Bool) → eqb k j ≡ c → Gives m o j e h ⊎ ((holds_seat (cond c u.seat (w.seats j)) ≡ true) × (cond c (1 + 0) 0 + rank_seat (w.seats j) ≤ rank_seat (cond c u.seat (w.seats j))))
            by true q = mine (eqb-true k j q)
            by false q = inr (hj, omega arith)

  back_idle : (h : History B) (w w' : World B) (x : Moment B) → ((j : ℕ) (a : Answer) (t : Told) → x.call ≡ stepped j a t → ⊥) → ((k : ℕ) → steps_of k (x ∷ []) ≡ 0) → ((k : ℕ) → holds_seat (w.seats k) ≡ true → w'.seats k ≡ w.seats k) → Back h w → Back (x ∷ h) w'
  back_idle h w w' x ns st same b = back_more h w w' x b (λ k l t. absurd (ns k t.0.0 t.0.1 t.0.2)) (λ k l hk. inr (subst (λ z. holds_seat z ≡ true) (sym (same k hk)) hk, (let z : rank_seat (w'.seats k) ≡ rank_seat (w.seats k) = ap (λ y. rank_seat y) (same k hk) in omega (arith, st k))))

  pub back : {h : History B} {w : World B} → Ran m o h w → Back h w
  back (opens slots l ev) = λ k newer older x q. absurd (no_moment newer older x q)
  back (seats h w k y b r idle fits) = back_idle h w (seat_of m w k y b) (moment m (seated k b) w.shared) (λ j a t c. cc) (λ j. refl) (λ j hj. same j hj (eqb k j) refl) (back r)
    where
      same : (j : ℕ) → holds_seat (w.seats j) ≡ true → (c : Bool) → eqb k j ≡ c → cond (eqb k j) (Some (to (first_phase k) (record { body = b; way = y; start = 0; reads = []; writes = [] }))) (w.seats j) ≡ w.seats j
      same j hj true q = absurd (false≢true (subst (λ z. holds_seat z ≡ true) idle (subst (λ z. holds_seat (w.seats z) ≡ true) (sym (eqb-true k j q)) hj)))
      same j hj false q = rw q
  back (steps h w k s r at) = back_step h w (inv m o law r) k s at (back r)
  back (pauses h w p r) = back_idle h w (pause_of m p w) (moment m other w.shared) (λ j a t c. cc) (λ j. refl) (λ j hj. refl) (back r)
  back (refuses h w r) = back_idle h w w (moment m other w.shared) (λ j a t c. cc) (λ j. refl) (λ j hj. refl) (back r)
