-- In a run the journal has room for every record that a step makes, and commits are counted.
use Rattle.std.proofs.Common.{◌≡◌, ℕ, zero, suc, ◌+◌, ◌<◌, ◌≤◌, Bool, true, false, cond, eqb, ltb, List, [], ◌∷◌, length, get_or, take, replicate, Some, None, Option, sym, refl, ap, ◌∙◌, subst, arith}
use mathlib.Core.Bool.{false≢true}
use Rattle.std.proofs.lemmas.List.{take_more_set}
use Rattle.std.proofs.lemmas.Bool.{eqb-true, eqb-false, ltb-true, ltb-false, lt-ltb, cond_both}
use Rattle.body.specs.declared.body.Body.{Ghosts}
use Rattle.journal.specs.declared.record.Record.{Record}
use Rattle.journal.specs.declared.record.Record.TheVariants.{Change}
use Rattle.lane.specs.declared.phase.Phase.{Phase}
use Rattle.lane.specs.declared.refusal.SeatRefusal.{SeatRefusal}
use Rattle.lane.specs.declared.phase.Phase.TheVariants.{Reserve, MasterLook, Take, MasterRun, Put, Begin, Run, Check, Wait, Look, Prevalidate, Swap, Validate, Mark, Cell, Release, LetGo, Quit, Leave}
use Rattle.lane.specs.declared.seated.Seated.{Seated}
use Rattle.lane.specs.declared.step.Effect.{Effect}
use Rattle.lane.specs.declared.step.Effect.TheVariants.{Unchanged, FlagSet, LaneTaken, MarkSet, CellSet, NumberRaised, NumberLowered, QueueJoined, QueueLeft}
use Rattle.lane.specs.declared.step.Step.{Step}
use Rattle.lane.specs.Calls.{After, Opened, open_world, way_of, needed, kept, kept_in, first_phase, seat_refusal, newly_seated, taken_way, seat_world, seat_by, seat_call, commit_record, record_by, made_by, used_after, journal_after, seated_to, has_room, record_of, moved, seated_after, step_world, step_now, can_step, step_by, step_call, paused_as, pause_call, resume_call}
use Rattle.lane.specs.Effects.{body_after}
use Rattle.lane.specs.History.{History, commits}
use Rattle.lane.specs.Journals.{recorded, changes}
use Rattle.lane.specs.Law.{Opening}
use Rattle.lane.specs.Sane.{of_seat, total, present, Fair, FairSeat, Sane}
use Rattle.lane.specs.Worlds.{World, work_of}
use Rattle.lane.proofs.Bodies.{Laws}
use Rattle.lane.proofs.Budgets.{spare, holds_next, if_any, Made, len_after, Adds, adds}
use Rattle.lane.proofs.Core.{to}
use Rattle.lane.proofs.Counts.{facts}
use Rattle.lane.proofs.Entries.{Held, HeldSeat, Clean}
use Rattle.lane.proofs.Frame.{mine_odd}
use Rattle.lane.proofs.Inv.{holds, holds_seat, Facts}
use Rattle.lane.proofs.Runs.{view_of, Inv, inv}
use Rattle.lane.proofs.Sanity.{get_d_set, getD_none, total_set, total_at, total_zero, length_writes, Accepted, accepted}
use Rattle.lane.proofs.Seen.{model, seat_view}
use Rattle.lane.proofs.Steady.{of_next, NextIs}
use Rattle.lane.proofs.Tallies.{added, Tallied, tally_none, tallied, tally_own, tally_others}
use Rattle.lane.proofs.Whole.{Right}

abbrev pub spare_of : Option Seated → ℕ
spare_of = of_seat (λ s. spare s.keeps s.made s.phase)

-- A seat that holds the lane has recorded so many changes.
abbrev pub Holder : ℕ → Option Seated → Type 0
Holder count None = Unit {0}
Holder count (Some s) = holds s.phase ≡ true → count ≡ s.made

spare_few : (keeps made : ℕ) (p : Phase) → spare keeps made p ≤ kept_in p keeps
spare_few keeps made Reserve = omega arith
spare_few keeps made MasterLook = omega arith
spare_few keeps made Take = omega arith
spare_few keeps made MasterRun = omega arith
spare_few keeps made (Put c v) = omega arith
spare_few keeps made Begin = omega arith
spare_few keeps made Run = omega arith
spare_few keeps made (Check c v) = omega arith
spare_few keeps made Wait = omega arith
spare_few keeps made (Look o) = omega arith
spare_few keeps made (Prevalidate c i) = omega arith
spare_few keeps made (Swap o c) = omega arith
spare_few keeps made (Validate i) = omega arith
spare_few keeps made (Mark i) = omega arith
spare_few keeps made (Cell i) = omega arith
spare_few keeps made Release = omega arith
spare_few keeps made LetGo = omega arith
spare_few keeps made Quit = omega arith
spare_few keeps made Leave = omega arith

kept_first : (k n : ℕ) → kept_in (first_phase k) n ≡ n
kept_first zero n = refl
kept_first (suc k) n = refl

spares_kept : (l : List (Option Seated)) → total spare_of l ≤ kept l
spares_kept [] = omega arith
spares_kept (None ∷ l) = let z = spares_kept l in omega arith
spares_kept (Some s ∷ l) = let z = spares_kept l in let y = spare_few s.keeps s.made s.phase in omega arith

module _ {B : Type 0} (m : Ghosts B) where
  pub record Budget (k : ℕ) (s : Seated) (b : B) : Type 0 where
    pub keeps : s.keeps ≡ needed k (m.len b)
    pub made : Made m s.writes b s.made s.phase

  abbrev pub BudgetSeat : ℕ → Option Seated → Option B → Type 0
  BudgetSeat k None b = Unit {0}
  BudgetSeat k (Some s) None = Unit {0}
  BudgetSeat k (Some s) (Some b) = Budget k s b

  pub record Booked (w : World B) : Type 0 where
    pub budgets : (k : ℕ) → BudgetSeat k (get_or w.seats k None) (get_or w.bodies k None)
    pub room : w.used + total spare_of w.seats ≤ w.sizes.journal
    pub tally : Tallied w.shared.core.number (recorded w)
    pub holder : (k : ℕ) → Holder (changes w.shared.core.number (recorded w)) (get_or w.seats k None)

  -- A step -----------------------------------------------------------------------

  module _ (law : Laws m) (o : Opening) (h : History B) (w : World B) (r : Right m o h w) (c : Clean m o (model w)) (i : Booked w)
      (k : ℕ) (s : Seated) (b : B) (l : k ≤ w.helpers) (at : get_or w.seats k None ≡ Some s) (has_body : get_or w.bodies k None ≡ Some b) where
    abbrev z : Step
    z = step_now m w k s b

    abbrev w' : World B
    w' = step_world m w k s b z

    abbrev x : Option Record
    x = record_of m w k s z

    -- The changes that the transaction has recorded after the step.
    abbrev made' : ℕ
    made' = made_by z.effect true s.made

    abbrev s' : Option Seated
    s' = seated_after m w k s z

    abbrev b' : B
    b' = body_after m z.told b

    abbrev number : ℕ
    number = w.shared.core.number

    abbrev number' : ℕ
    number' = w'.shared.core.number

    law_holds : Inv m o h (model w)
    law_holds = inv m o law r.ran

    inside : (k < length w.seats) × (k < length w.bodies)
    inside = (omega (arith, r.sane.all_seated, r.sane.sized.few), omega (arith, r.sane.all_bodies, r.sane.sized.few))

    seen : seat_view w k ≡ Some (to s.phase (work_of w k s b))
    seen = rw (at, has_body)

    facts_now : Facts m o.cells w.shared.core w.shared.flag (commits h) k (work_of w k s b) (view_of k h) s.phase
    facts_now = facts m o law h (model w) law_holds k (to s.phase (work_of w k s b)) seen

    fair_now : Fair w.used w.shared.queue k s (get_or w.bodies k None)
    fair_now = subst (λ y. FairSeat w.used w.shared.queue k y (get_or w.bodies k None)) at (r.sane.fair k)

    held_now : Held (length o.cells) (work_of w k s b)
    held_now = subst (HeldSeat (length o.cells)) seen (c.seats k)

    budget_now : Budget k s b
    budget_now = subst (λ y. BudgetSeat k y (Some b)) at (subst (λ y. BudgetSeat k (get_or w.seats k None) y) has_body (i.budgets k))

    holder_now : holds s.phase ≡ true → changes number (recorded w) ≡ s.made
    holder_now = subst (Holder (changes number (recorded w))) at (i.holder k)

    step_adds : Adds m law o.cells w.shared (commits h) k (work_of w k s b) (view_of k h) s s.phase z
    step_adds =
        let long = sym (length_writes w r.sane r.lent k s l fair_now) in
        adds m law o.cells w.shared (commits h) k (work_of w k s b) (view_of k h) s held_now long budget_now.keeps
        s.phase facts_now budget_now.made

    spare_now : spare_of (get_or w.seats k None) ≡ spare s.keeps s.made s.phase
    spare_now = ap spare_of at

    -- THERE IS ROOM for the record
    pub room_for : (y : Record) → record_of m w k s (step_now m w k s b) ≡ Some y → has_room m w ≡ true
    room_for y e =
        let a : if_any x ≡ 1 = ap if_any e in
        let d = total_at spare_of w.seats k None inside.0 in
        lt-ltb w.used w.sizes.journal (omega (arith, step_adds.cost, i.room, spare_now))

    used_did : w'.used ≡ w.used + if_any x
    used_did = by x room_for
      where
        by : (q : Option Record) → ((y : Record) → q ≡ Some y → has_room m w ≡ true) → used_after (has_room m w) q w.used ≡ w.used + if_any q
        by None f = omega arith
        by (Some y) f = subst (λ p. used_after p (Some y) w.used ≡ w.used + 1) (sym (f y refl)) refl

    abbrev Grown : Bool → Option Record → Type 0
    Grown p q = take (used_after p q w.used) (journal_after p q w.used w.journal) ≡ added (recorded w) q

    -- The step's record stands behind those before it
    pub recorded_did : recorded (step_world m w k s b (step_now m w k s b)) ≡ added (recorded w) (record_of m w k s (step_now m w k s b))
    recorded_did = by x room_for
      where
        by : (q : Option Record) → ((y : Record) → q ≡ Some y → has_room m w ≡ true) → Grown (has_room m w) q
        by None f = refl
        by (Some y) f =
            let e = ltb-true w.used w.sizes.journal (f y refl) in
            subst (λ p. Grown p (Some y)) (sym (f y refl)) (take_more_set w.journal w.used y (omega (arith, r.lent.journal)))

    made_did : made_by z.effect (has_room m w) s.made ≡ made'
    made_did = by z.effect room_for
      where
        by : (e : Effect) → ((y : Record) → record_by e number (commit_record m.KIND k s z.answer) ≡ Some y → has_room m w ≡ true)
            → made_by e (has_room m w) s.made ≡ made_by e true s.made
        by Unchanged f = refl
        by FlagSet f = refl
        by LaneTaken f = refl
        by (MarkSet a) f = refl
        by (CellSet a v) f = subst (λ p. made_by (CellSet a v) p s.made ≡ s.made + 1) (sym (f (Change number a v) refl)) refl
        by NumberRaised f = refl
        by NumberLowered f = refl
        by QueueJoined f = refl
        by QueueLeft f = refl

    own_budget : (q : Option Phase) → NextIs (Made m (moved m w k s z).writes b' made') q → BudgetSeat k (seated_to q (moved m w k s z)) (Some b')
    own_budget None f = tt
    own_budget (Some q) f = record {
      keeps = budget_now.keeps ∙ ap (needed k) (sym (len_after m law z.told b));
      made = subst (λ n. Made m (moved m w k s z).writes b' n q) (sym made_did) f;
    }

    own_spare : (q : Option Phase) → spare_of (seated_to q (moved m w k s z)) ≡ of_next (spare s.keeps made') q
    own_spare None = refl
    own_spare (Some q) = ap (λ n. spare s.keeps n q) made_did

    own_holder : (n : ℕ) (q : Option Phase) → (holds_next q ≡ true → n ≡ made') → Holder n (seated_to q (moved m w k s z))
    own_holder n None f = tt
    own_holder n (Some q) f = λ e. f e ∙ sym made_did

    -- Another seat that holds the lane
    other_holder : (j : ℕ) → (k ≡ j → ⊥) → Holder (changes number' (recorded w')) (get_or w.seats j None)
    other_holder j ne = by (get_or w.seats j None) refl (i.holder j)
      where
        lane : (t : Seated) → get_or w.seats j None ≡ Some t → holds t.phase ≡ true → (y : Option B) → get_or w.bodies j None ≡ y
            → holds_seat (seat_view w j) ≡ true
        lane t e q None f =
            let fair = subst (λ y. FairSeat w.used w.shared.queue j y (get_or w.bodies j None)) e (r.sane.fair j) in
            absurd (false≢true (ap present (sym f) ∙ fair.held))
        lane t e q (Some a) f = rw (e, f) q

        not_both : holds_seat (seat_view w j) ≡ true → (y : Bool) → holds s.phase ≡ y → holds s.phase ≡ false
        not_both q true e = absurd (ne (law_holds.one k j (rw seen e) q))
        not_both q false e = e

        by : (y : Option Seated) → get_or w.seats j None ≡ y → Holder (changes number (recorded w)) y → Holder (changes number' (recorded w')) y
        by None e f = tt
        by (Some t) e f = λ q.
            (let p = lane t e q (get_or w.bodies j None) refl in
            let odd = mine_odd m o.cells w.shared.core w.shared.flag (commits h) j (view_of j h) (seat_view w j) p (law_holds.seats j) in
            ap (changes number') recorded_did ∙ tally_others (recorded w) step_adds.deed (not_both p (holds s.phase) refl) odd ∙ f q)

    pub booked_did : Booked (step_world m w k s b (step_now m w k s b))
    booked_did = record {
      budgets = λ j. rw (get_d_set w.seats k j s' None inside.0, get_d_set w.bodies k j (Some b') None inside.1) (budget_at j (eqb k j) refl);
      room =
          (let a = total_set spare_of w.seats k s' None inside.0 in
          let d = own_spare z.next in
          omega (arith, used_did, step_adds.cost, i.room, spare_now));
      tally = subst (Tallied number') (sym recorded_did) (tallied (recorded w) step_adds.deed i.tally holder_now);
      holder = λ j. rw (get_d_set w.seats k j s' None inside.0) (holder_at j (eqb k j) refl);
    }
      where
        budget_at : (j : ℕ) (p : Bool) → eqb k j ≡ p → BudgetSeat j (cond p s' (get_or w.seats j None)) (cond p (Some b') (get_or w.bodies j None))
        budget_at j true e = subst (λ y. BudgetSeat y s' (Some b')) (eqb-true k j e) (own_budget z.next step_adds.made)
        budget_at j false e = i.budgets j

        own : holds_next z.next ≡ true → changes number' (recorded w') ≡ made'
        own q = ap (changes number') recorded_did ∙ tally_own (recorded w) step_adds.deed i.tally holder_now q

        holder_at : (j : ℕ) (p : Bool) → eqb k j ≡ p → Holder (changes number' (recorded w')) (cond p s' (get_or w.seats j None))
        holder_at j true e = own_holder (changes number' (recorded w')) z.next own
        holder_at j false e = other_holder j (eqb-false k j e)

  pub booked_step : Laws m → (o : Opening) (h : History B) (w : World B) → Right m o h w → Clean m o (model w) → Booked w → (k : ℕ)
      → Booked (step_call m w k).world
  booked_step law o h w r c i k = cond_both (ltb w.helpers k) _ _ (λ (d : After B). Booked d.world) (λ e. i)
      (λ e. by (ltb-false w.helpers k e) (get_or w.seats k None) refl (get_or w.bodies k None) refl)
    where
      by : k ≤ w.helpers → (x : Option Seated) → get_or w.seats k None ≡ x → (y : Option B) → get_or w.bodies k None ≡ y
          → Booked (step_by m w k x y).world
      by l None e y f = i
      by l (Some s) e None f = i
      by l (Some s) e (Some b) f = cond_both (can_step m w k s b) _ _ (λ (d : After B). Booked d.world)
          (λ q. booked_did law o h w r c i k s b l e f)
          (λ q. i)

  -- Any other call ---------------------------------------------------------------

  module _ (w : World B) (n : Sane w) (i : Booked w) (k y t : ℕ) (b : B) (a : Accepted m w k y b) where
    abbrev new : Seated
    new = newly_seated m k (taken_way m (way_of k y)) t b

    abbrev count : ℕ
    count = changes w.shared.core.number (recorded w)

    within_seats : k < length w.seats
    within_seats = omega (arith, n.all_seated, n.sized.few, a.seat)

    within_bodies : k < length w.bodies
    within_bodies = omega (arith, n.all_bodies, n.sized.few, a.seat)

    fresh : (j : ℕ) → Made m 0 b 0 (first_phase j)
    fresh zero = refl
    fresh (suc j) = refl

    free : (j : ℕ) → holds (first_phase j) ≡ true → count ≡ 0
    free zero e = absurd (false≢true e)
    free (suc j) e = absurd (false≢true e)

    budget_new : (j : ℕ) (p : Bool) → eqb k j ≡ p → BudgetSeat j (cond p (Some new) (get_or w.seats j None)) (cond p (Some b) (get_or w.bodies j None))
    budget_new j true e = subst (λ x. BudgetSeat x (Some new) (Some b)) (eqb-true k j e) (record { keeps = refl; made = fresh k })
    budget_new j false e = i.budgets j

    pub booked_seated : Booked (seat_world m w k y t b)
    booked_seated = record {
      budgets = λ j.
          rw (get_d_set w.seats k j (Some new) None within_seats, get_d_set w.bodies k j (Some b) None within_bodies)
          (budget_new j (eqb k j) refl);
      room =
          (let d : spare_of (get_or w.seats k None) ≡ 0 = ap spare_of a.idle in
          let e = total_set spare_of w.seats k (Some new) None within_seats in
          let f = spare_few new.keeps new.made new.phase in
          let n = kept_first k new.keeps in
          omega (arith, a.records, spares_kept w.seats));
      tally = i.tally;
      holder = λ j. rw (get_d_set w.seats k j (Some new) None within_seats) (cond_both (eqb k j) _ _ (Holder count) (λ e. free k) (λ e. i.holder j));
    }

  pub booked_seat : (w : World B) → Sane w → Booked w → (k y t : ℕ) (b : B) → Booked (seat_call m w k y t b).world
  booked_seat w n i k y t b = by (seat_refusal m w k y b) refl
    where
      by : (x : Option SeatRefusal) → seat_refusal m w k y b ≡ x → Booked (seat_by m w k y t b x).world
      by (Some x) e = i
      by None e = booked_seated w n i k y t b (accepted m w k y b e)

  booked_paused : (w : World B) (p : Bool) → Booked w → Booked (paused_as p w)
  booked_paused w p i = record { budgets = i.budgets; room = i.room; tally = i.tally; holder = i.holder }

  pub booked_pause : (w : World B) → Booked w → Booked (pause_call w).world
  booked_pause w i = cond_both w.shared.paused _ _ (λ (d : After B). Booked d.world) (λ e. i) (λ e. booked_paused w true i)

  pub booked_resume : (w : World B) (name : ℕ) → Booked w → Booked (resume_call w name).world
  booked_resume w name i = cond_both (eqb name w.name) _ _ (λ (d : After B). Booked d.world)
      (λ e. cond_both w.shared.paused _ _ (λ (d : After B). Booked d.world) (λ f. booked_paused w false i) (λ f. i))
      (λ e. i)

  pub booked_open : (o : Opened) → Booked (open_world {B = B} o)
  booked_open o = record {
    budgets = λ k. subst (λ x. BudgetSeat k x (get_or (replicate 9 None) k None)) (sym (getD_none 9 k)) tt;
    room = omega (arith, total_zero spare_of 9 None refl);
    tally = tally_none o.number;
    holder = λ k. subst (Holder 0) (sym (getD_none 9 k)) tt;
  }
