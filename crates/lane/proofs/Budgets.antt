-- Of one step: what it adds to the records, and that the records kept for its transaction suffice. A master makes no more
-- changes than its body has requests, and a helper no more than its log has entries.
use Rattle.std.proofs.Common.{◌≡◌, ℕ, zero, suc, ◌+◌, ◌-◌, ◌%◌, ◌<◌, ◌≤◌, min, Bool, true, false, cond, not, ◌&&◌, eqb, ltb, leb, List, [], ◌∷◌, length, get_or, ℤ, pos, Some, None, Option, sym, refl, ap, ◌∙◌, subst, arith}
use mathlib.Core.Bool.{false≢true}
use Rattle.std.proofs.lemmas.Bool.{eqb-true, ltb-false, and_parts, cond_both}
use Rattle.body.specs.declared.body.Body.{Ghosts}
use Rattle.body.specs.declared.request.Request.{Request}
use Rattle.body.specs.declared.request.Request.TheVariants.{Read, Write, End}
use Rattle.body.specs.Meaning.{ReadTold, WriteTaken}
use Rattle.body.specs.Serial.{Commit}
use Rattle.journal.specs.declared.record.Record.{Record}
use Rattle.lane.specs.declared.answer.Answer.{Answer}
use Rattle.lane.specs.declared.answer.Answer.TheVariants.{GoneOn, Waiting, Paused, BrokenOff}
use Rattle.lane.specs.declared.phase.Phase.{Phase}
use Rattle.lane.specs.declared.phase.Phase.TheVariants.{Reserve, MasterLook, Take, MasterRun, Put, Begin, Run, Check, Wait, Look, Prevalidate, Swap, Validate, Mark, Cell, Release, LetGo, Quit, Leave}
use Rattle.lane.specs.declared.phase.Way.{Way}
use Rattle.lane.specs.declared.phase.Way.TheVariants.{One, Two, Three}
use Rattle.lane.specs.declared.seated.Seated.{Seated}
use Rattle.lane.specs.declared.step.Effect.TheVariants.{CellSet, NumberRaised}
use Rattle.lane.specs.declared.step.Step.{Step}
use Rattle.lane.specs.declared.told.Told.{Told}
use Rattle.lane.specs.declared.told.Told.TheVariants.{Nothing, Restarted, Handed, Taken}
use Rattle.lane.specs.Calls.{needed, commit_record, record_by, made_by}
use Rattle.lane.specs.Effects.{shared_after, body_after}
use Rattle.lane.specs.Logs.{has, mem, no_entry, most_writes}
use Rattle.lane.specs.Phases.{stays, does, master_run_step, read_step, look_even, look_step, way_step, run_step, after_swap, release_step, let_go_step, step_at}
use Rattle.lane.specs.Sane.{raises}
use Rattle.lane.specs.State.{Shared, Work, entries, odd, stale, first_is}
use Rattle.lane.specs.Worlds.{writes_used}
use Rattle.lane.proofs.Bodies.{Laws, valid_left, valid_same}
use Rattle.lane.proofs.Entries.{Held}
use Rattle.lane.proofs.Inv.{View, holds, Doing, Logged, Facts}
use Rattle.lane.proofs.Logs.{log}
use Rattle.lane.proofs.Steady.{of_next, NextIs}
use Rattle.lane.proofs.Steps.{few_entered}
use Rattle.lane.proofs.Tallies.{Deed, rests, takes_lane, sets_cell, commits_reader, commits_lane, lets_go}

-- The records that a transaction may still make: of those kept for it, those that it has not made. One that has committed
-- makes none.
abbrev pub spare : ℕ → ℕ → Phase → ℕ
spare keeps made p = cond (eqb (raises p) 0) 0 (keeps - made)

abbrev pub holds_next : Option Phase → Bool
holds_next None = false
holds_next (Some p) = holds p

-- How many records there are.
abbrev pub if_any : Option Record → ℕ
if_any None = 0
if_any (Some r) = 1

-- How many changes a transaction has recorded, by its phase, the length of its write log and its body.
abbrev pub Made : {B : Type 0} → Ghosts B → ℕ → B → ℕ → Phase → Type 0
Made m written b made Reserve = made ≡ 0
Made m written b made MasterLook = made ≡ 0
Made m written b made Take = made ≡ 0
Made m written b made MasterRun = made + m.left b ≤ m.len b
Made m written b made (Put c v) = made + m.left b ≤ m.len b
Made m written b made Begin = made ≡ 0
Made m written b made Run = made ≡ 0
Made m written b made (Check c v) = made ≡ 0
Made m written b made Wait = made ≡ 0
Made m written b made (Look checked) = made ≡ 0
Made m written b made (Prevalidate seen at) = made ≡ 0
Made m written b made (Swap checked seen) = made ≡ 0
Made m written b made (Validate at) = made ≡ 0
Made m written b made (Mark at) = made ≡ at
Made m written b made (Cell at) = made ≡ at
Made m written b made Release = made ≡ written
Made m written b made LetGo = made ≡ 0
Made m written b made Quit = made ≡ 0
Made m written b made Leave = Unit {0}

needed_master : (k n : ℕ) → k ≡ 0 → needed k n ≡ n + 1
needed_master zero n e = refl
needed_master (suc k) n e = absurd (omega arith)

needed_helper : (k n : ℕ) → 0 < k → needed k n ≡ min n most_writes + 1
needed_helper zero n l = absurd (omega arith)
needed_helper (suc k) n l = refl

-- A log has no more entries than the attempt was told.
short_log : (T : List Told) → length (log T) ≤ length T
short_log [] = omega arith
short_log (Nothing ∷ T) = let z = short_log T in omega arith
short_log (Restarted s ∷ T) = let z = short_log T in omega arith
short_log (Handed c v ∷ T) = let z = short_log T in omega arith
short_log (Taken c v ∷ T) = let z = short_log T in few_entered c v (log T) (suc (length T)) (omega arith) (λ e. omega arith)

module _ {B : Type 0} (m : Ghosts B) (law : Laws m) where
  left_told : (b : B) (v : ℤ) → m.left (m.told b v) ≤ m.left b
  left_told b v = by (m.asks b) (law.reads b v)
    where
      by : (q : Request) → ReadTold m.left b (m.told b v) q → m.left (m.told b v) ≤ m.left b
      by (Read c) h = omega arith
      by (Write c x) h = rw h (omega arith)
      by End h = rw h (omega arith)

  left_taken : (b : B) (c : ℕ) (x : ℤ) → m.asks b ≡ Write c x → m.left (m.taken b) < m.left b
  left_taken b c x e = subst (WriteTaken m.left b (m.taken b)) e (law.writes b)

  -- The length of a body never changes.
  pub len_after : (t : Told) (b : B) → m.len (body_after m t b) ≡ m.len b
  len_after Nothing b = refl
  len_after (Restarted s) b = (law.same_begin b).lasts
  len_after (Handed c v) b = (law.same_told b v).lasts
  len_after (Taken c v) b = (law.same_taken b).lasts

  module _ (σ : List ℤ) (g : Shared) (C : List (Commit B)) (k : ℕ) (s : Work B) (v : View B) (t : Seated) where
    -- The record of a step, and how many changes the transaction has recorded then.
    abbrev pub record_now : Step → Option Record
    record_now z = record_by z.effect g.core.number (commit_record m.KIND k t z.answer)

    abbrev pub made_now : Step → ℕ
    made_now z = made_by z.effect true t.made

    abbrev pub number_now : Step → ℕ
    number_now z = (shared_after k z.effect g).core.number

    -- What is to be shown of a step.
    pub record Adds (p : Phase) (z : Step) : Type 0 where
      pub made : NextIs (Made m (writes_used z.log s.writes t.writes) (body_after m z.told s.body) (made_now z)) z.next
      pub cost : if_any (record_now z) + of_next (spare t.keeps (made_now z)) z.next ≤ spare t.keeps t.made p
      pub deed : Deed g.core.number t.made (holds p) (record_now z) (number_now z) (made_now z) (holds_next z.next)

    module _ (h : Held (length σ) s) (long : t.writes ≡ length s.writes) (keeps : t.keeps ≡ needed k (m.len s.body)) where
      -- Stays, or goes on to a phase, and makes no record.
      on : (p q : Phase) (a : Answer) → commit_record m.KIND k t a ≡ None → Made m t.writes s.body t.made q
          → spare t.keeps t.made q ≤ spare t.keeps t.made p → (holds q ≡ true → holds p ≡ true) → Adds p (stays a q)
      on p q a e i c l = record { made = i; cost = rw e (omega arith); deed = rw e (rests (holds q) l) }

      -- A log has fewer entries than records are kept.
      few : {τ : List ℤ} → 0 < k → Doing m σ τ s v → Logged s v.told → length s.writes < t.keeps
      few l d w =
          let a : length s.writes ≡ length (log v.told) = ap length w.written in
          let b = short_log v.told in
          let c = valid_left m law d.valid in
          let e = law.short d.who in
          let f = (valid_same m law d.valid).lasts in
          let j = needed_helper k (m.len s.body) l in
          omega (arith, w.few_writes)

      some_kept : 0 < t.keeps
      some_kept = by k refl
        where
          by : (j : ℕ) → k ≡ j → 0 < t.keeps
          by zero e = let z = needed_master k (m.len s.body) e in omega arith
          by (suc j) e = let z = needed_helper k (m.len s.body) (omega arith) in omega arith

      adds_look : (p : Phase) (o : Option ℕ) (y : Way) → t.made ≡ 0 → spare t.keeps t.made p ≡ t.keeps - t.made
          → Adds p (look_step g.core.number y o)
      adds_look p o y i c = cond_both (odd g.core.number) _ _ (Adds p) (λ e. to (Look o) Waiting refl i refl refl) (λ e. by y o)
        where
          to : (q : Phase) (a : Answer) → commit_record m.KIND k t a ≡ None → Made m t.writes s.body t.made q → holds q ≡ false
              → spare t.keeps t.made q ≡ t.keeps - t.made → Adds p (stays a q)
          to q a e j f d = on p q a e j (omega arith) (λ x. absurd (false≢true (sym f ∙ x)))

          by : (y' : Way) (o' : Option ℕ) → Adds p (look_even g.core.number y' o')
          by One o' = to (Swap None g.core.number) GoneOn refl i refl refl
          by Two None = to (Prevalidate g.core.number 0) GoneOn refl i refl refl
          by Two (Some f) = to (Swap (Some f) g.core.number) GoneOn refl i refl refl
          by Three o' = to (Prevalidate g.core.number 0) GoneOn refl i refl refl

      adds_master : Facts m σ g.core g.flag C k s v MasterRun → t.made + m.left s.body ≤ m.len s.body → (q : Request)
          → Adds MasterRun (master_run_step g.core.number g.core.cells q)
      adds_master f i (Read c) =
          let x = get_or g.core.cells c (pos 0) in
          let a = left_told s.body x in
          let b = (law.same_told s.body x).lasts in
          record { made = omega arith; cost = omega arith; deed = rests true (λ e. e) }
      adds_master f i (Write c x) = record { made = i; cost = omega arith; deed = rests true (λ e. e) }
      adds_master f i End =
          let a = needed_master k (m.len s.body) f.master in
          record { made = tt; cost = omega arith; deed = commits_lane k m.KIND t.tag refl f.odd }

      adds_run : Facts m σ g.core g.flag C k s v Run → t.made ≡ 0 → (q : Request) → Adds Run (run_step g s q)
      adds_run f i (Read c) = cond_both (has c s.writes) _ _ (λ o. Adds Run (read_step g.core.cells c o))
          (λ e. record { made = i; cost = omega arith; deed = rests false (λ x. x) })
          (λ e. on Run (Check c (get_or g.core.cells c (pos 0))) GoneOn refl i (omega arith) (λ x. x))
      adds_run f i (Write c x) = cond_both (stale g s c) _ _ (Adds Run) (λ e. on Run Begin BrokenOff refl i (omega arith) (λ x. x))
          (λ e. cond_both (not (has c s.writes) && leb 32 (length s.writes)) _ _ (Adds Run)
          (λ a. record { made = tt; cost = omega arith; deed = rests false (λ x. x) })
          (λ a. record { made = i; cost = omega arith; deed = rests false (λ x. x) }))
      adds_run f i End = cond_both (eqb (length s.writes) 0) _ _ (Adds Run)
          (λ e. record { made = tt; cost = omega (arith, some_kept); deed = commits_reader s.start k m.KIND t.tag h.even early i })
          (λ e. by s.way)
        where
          early : s.start ≤ g.core.number
          early = omega (arith, f.begun.is, f.begun.early)

          by : (y : Way) → Adds Run (way_step g.core.number y)
          by One = adds_look Run None One i refl
          by Two = record { made = i; cost = omega arith; deed = rests false (λ x. x) }
          by Three = record { made = i; cost = omega arith; deed = rests false (λ x. x) }

      pub adds : (p : Phase) → Facts m σ g.core g.flag C k s v p → Made m t.writes s.body t.made p → Adds p (step_at m g k s p)
      adds Reserve f i = cond_both g.paused _ _ (Adds Reserve)
          (λ e. on Reserve Reserve Paused refl i (omega arith) (λ x. x))
          (λ e. record { made = i; cost = omega arith; deed = rests false (λ x. x) })
      adds MasterLook f i = cond_both (odd g.core.number) _ _ (Adds MasterLook)
          (λ e. on MasterLook MasterLook Waiting refl i (omega arith) (λ x. x))
          (λ e. on MasterLook Take GoneOn refl i (omega arith) (λ x. x))
      adds Take f i =
          let a = law.short s.body in
          let b = (law.same_begin s.body).lasts in
          record { made = omega arith; cost = omega arith; deed = takes_lane true f.3 i }
      adds MasterRun f i = adds_master f i (m.asks s.body)
      adds (Put c x) f i =
          let a = left_taken s.body c x f.1 in
          let b = (law.same_taken s.body).lasts in
          let d = needed_master k (m.len s.body) f.0.master in
          record { made = omega arith; cost = omega arith; deed = sets_cell true c x refl f.0.odd }
      adds Begin f i = cond_both g.paused _ _ (Adds Begin)
          (λ e. on Begin Begin Paused refl i (omega arith) (λ x. x))
          (λ e. record { made = i; cost = omega arith; deed = rests false (λ x. x) })
      adds Run f i = adds_run f i (m.asks s.body)
      adds (Check c x) f i = cond_both (stale g s c) _ _ (Adds (Check c x)) (λ e. on (Check c x) Begin BrokenOff refl i (omega arith) (λ y. y))
          (λ e. cond_both (not (mem c s.reads) && leb 64 (length s.reads)) _ _ (Adds (Check c x))
          (λ a. record { made = tt; cost = omega arith; deed = rests false (λ y. y) })
          (λ a. record { made = i; cost = omega arith; deed = rests false (λ y. y) }))
      adds Wait f i = cond_both (first_is k g.queue) _ _ (Adds Wait)
          (λ e. on Wait (Look None) GoneOn refl i (omega arith) (λ x. x))
          (λ e. on Wait Wait Waiting refl i (omega arith) (λ x. x))
      adds (Look o) f i = adds_look (Look o) o s.way i refl
      adds (Prevalidate n j) f i = cond_both (stale g s (get_or (entries s) j 0)) _ _ (Adds (Prevalidate n j))
          (λ e. on (Prevalidate n j) Quit GoneOn refl i (omega arith) (λ x. x))
          (λ e. cond_both (ltb (j + 1) (length (entries s))) _ _ (Adds (Prevalidate n j))
          (λ a. on (Prevalidate n j) (Prevalidate n (j + 1)) GoneOn refl i (omega arith) (λ x. x))
          (λ a. on (Prevalidate n j) (Swap (Some n) n) GoneOn refl i (omega arith) (λ x. x)))
      adds (Swap o n) f i = cond_both (eqb g.core.number n && not g.flag) _ _ (Adds (Swap o n))
          (λ e. by (let a = eqb-true g.core.number n (and_parts (eqb g.core.number n) _ e).0 in omega (arith, f.2)) o)
          (λ e. on (Swap o n) (Look o) GoneOn refl i (omega arith) (λ x. x))
        where
          by : g.core.number % 2 ≡ 0 → (o' : Option ℕ) → Adds (Swap o n) (does NumberRaised (after_swap o' n))
          by even None = record { made = i; cost = omega arith; deed = takes_lane true even i }
          by even (Some x) = cond_both (ltb x n) _ _ (λ q. Adds (Swap o n) (does NumberRaised q))
              (λ e. record { made = i; cost = omega arith; deed = takes_lane true even i })
              (λ e. record { made = i; cost = omega arith; deed = takes_lane true even i })
      adds (Validate j) f i = cond_both (stale g s (get_or (entries s) j 0)) _ _ (Adds (Validate j))
          (λ e. on (Validate j) LetGo GoneOn refl i (omega arith) (λ x. x))
          (λ e. cond_both (ltb (j + 1) (length (entries s))) _ _ (Adds (Validate j))
          (λ a. on (Validate j) (Validate (j + 1)) GoneOn refl i (omega arith) (λ x. x))
          (λ a. on (Validate j) (Mark 0) GoneOn refl i (omega arith) (λ x. x)))
      adds (Mark j) f i = record { made = i; cost = omega arith; deed = rests true (λ x. x) }
      adds (Cell j) f i =
          let a = few f.0.helper f.0.doing f.0.logs in
          let c = (get_or s.writes j no_entry).cell in
          let x = (get_or s.writes j no_entry).amount in
          cond_both (ltb (j + 1) (length s.writes)) _ _ (λ q. Adds (Cell j) (does (CellSet c x) q))
          (λ e. record { made = omega arith; cost = omega (arith, f.1); deed = sets_cell true c x refl f.0.odd })
          (λ e.
          let b = ltb-false (j + 1) (length s.writes) e in
          record { made = omega (arith, f.1); cost = omega (arith, f.1); deed = sets_cell true c x refl f.0.odd })
      adds Release f i = by s.way
        where
          enough : t.made < t.keeps
          enough = let a = few f.0.helper f.0.doing f.0.logs in omega arith

          by : (y : Way) → Adds Release (release_step g.core.number y)
          by One = record { made = tt; cost = omega (arith, enough); deed = commits_lane k m.KIND t.tag refl f.0.odd }
          by Two = record { made = tt; cost = omega (arith, enough); deed = commits_lane k m.KIND t.tag refl f.0.odd }
          by Three = record { made = tt; cost = omega (arith, enough); deed = commits_lane k m.KIND t.tag refl f.0.odd }
      adds LetGo f i = by s.way
        where
          by : (y : Way) → Adds LetGo (let_go_step y)
          by One = record { made = i; cost = omega arith; deed = lets_go refl f.2 i }
          by Two = record { made = i; cost = omega arith; deed = lets_go refl f.2 i }
          by Three = record { made = i; cost = omega arith; deed = lets_go refl f.2 i }
      adds Quit f i = record { made = i; cost = omega arith; deed = rests false (λ x. x) }
      adds Leave f i = record { made = tt; cost = omega arith; deed = rests false (λ x. x) }
