-- A seat of a sane book that is ready can take its step within bounds.
use Rattle.std.proofs.Common.{◌≡◌, ℕ, zero, suc, ◌+◌, ◌<◌, ◌≤◌, Bool, true, false, cond, ltb, List, [], ◌∷◌, length, get_or, Some, None, Ok, Err, Option, Result, sym, refl, ap, ◌∙◌, subst, arith}
use mathlib.Core.Bool.{false≢true}
use mathlib.Core.Logic.{∥∥₁_elim, ∥∥₁_map}
use native.Mathlib.Bridge.{le_prop}
use Rattle.std.proofs.lemmas.Bool.{eq-eqb, le-ltb, ltb-false, and_parts}
use Rattle.body.specs.declared.body.Body.{Ghosts}
use Rattle.lane.specs.declared.answer.Answer.{Answer}
use Rattle.lane.specs.declared.phase.Phase.{Phase}
use Rattle.lane.specs.declared.phase.Phase.TheVariants.{Reserve, MasterLook, Take, MasterRun, Put, Begin, Run, Check, Wait, Look, Prevalidate, Swap, Validate, Mark, Cell, Release, LetGo, Quit, Leave}
use Rattle.lane.specs.declared.phase.Way.{Way}
use Rattle.lane.specs.declared.refusal.StepRefusal.{StepRefusal}
use Rattle.lane.specs.declared.refusal.StepRefusal.TheVariants.{NoSeat, Lists as Lists-refused}
use Rattle.lane.specs.declared.seated.Seated.{Seated}
use Rattle.lane.specs.declared.step.Effect.TheVariants.{NumberLowered, QueueJoined}
use Rattle.lane.specs.declared.step.LogChange.{LogChange}
use Rattle.lane.specs.declared.step.LogChange.TheVariants.{Same, Emptied, Noted, Entered}
use Rattle.lane.specs.declared.step.Step.{Step}
use Rattle.lane.specs.declared.written.Written.{Written}
use Rattle.lane.specs.Calls.{same_sizes, can_step, step_now, step_did, step_by, step_call, step_reply, step_reply_by, step_world, untouched}
use Rattle.lane.specs.Effects.{reads_after, writes_after}
use Rattle.lane.specs.Logs.{most_reads, most_writes}
use Rattle.lane.specs.Sane.{masters, joined, total, joined_of, lowers, lowers_of, Fair, FairSeat, Sane}
use Rattle.lane.specs.Worlds.{World, read_log, write_log, work_of}
use Rattle.lane.proofs.Sanity.{Lent, lent_from, stretch_fits, length_reads, length_writes, st, total_at, joined_one}
use Rattle.lane.proofs.Steady.{of_next, NextIs, Queues, Plain, Lowering, Steady}
use Rattle.lane.proofs.Stretched.{noted_within, entered_within}
use Rattle.book.specs.declared.ready.Ready.{Ready}
use Rattle.book.specs.Views.{ReadsFit, WritesFit, ready_of, ready_by, CanAct}

-- What a ready seat is.
pub record IsReady {B : Type 0} (m : Ghosts B) (w : World B) (k : ℕ) (r : Ready) : Type 0 where
  pub seat : k ≤ w.helpers
  pub seated : get_or w.seats k None ≡ Some r.seated
  pub body : B
  pub held : get_or w.bodies k None ≡ Some body
  pub can : can_step m w k r.seated body ≡ true
  pub step : r.step ≡ step_now m w k r.seated body
  pub kind : r.kind ≡ m.KIND

module _ {B : Type 0} (m : Ghosts B) (w : World B) (k : ℕ) where
  pub is_ready : (r : Ready) → Ok r ≡ ready_of m w k → IsReady m w k r
  is_ready r e = by (ltb w.helpers k) refl e
    where
      inner : k ≤ w.helpers → (x : Option Seated) → get_or w.seats k None ≡ x → (y : Option B) → get_or w.bodies k None ≡ y → Ok r ≡ ready_by m w k x y → IsReady m w k r
      inner l None p y q h = let z : ◌≡◌ {A = ℕ} 0 1 = cc in absurd (omega arith)
      inner l (Some s) p None q h = let z : ◌≡◌ {A = ℕ} 0 1 = cc in absurd (omega arith)
      inner l (Some s) p (Some b) q h = can (can_step m w k s b) refl h
        where
          can : (t : Bool) → can_step m w k s b ≡ t → Ok r ≡ cond t (Ok (record { seated = s; step = step_now m w k s b; kind = m.KIND })) (Err Lists-refused) → IsReady m w k r
          can true c g =
              let r≡ : r ≡ record { seated = s; step = step_now m w k s b; kind = m.KIND } = cc in
              subst (λ x. IsReady m w k x) (sym r≡) (record { seat = l; seated = p; body = b; held = q; can = c; step = refl; kind = refl })
          can false c g = let z : ◌≡◌ {A = ℕ} 0 1 = cc in absurd (omega arith)

      by : (t : Bool) → ltb w.helpers k ≡ t → Ok r ≡ cond t (Err NoSeat) (ready_by m w k (get_or w.seats k None) (get_or w.bodies k None)) → IsReady m w k r
      by true l h = let z : ◌≡◌ {A = ℕ} 0 1 = cc in absurd (omega arith)
      by false l h = inner (ltb-false w.helpers k l) (get_or w.seats k None) refl (get_or w.bodies k None) refl h

  -- What the call answers and leaves then.
  pub ready_reply : (r : Ready) (i : IsReady m w k r) → Ok r.step.answer ≡ step_reply m w k
  ready_reply r i =
      ap {B = Result Answer StepRefusal} (λ (z : Step). Ok z.answer) i.step
      ∙ sym (rw (seat_there, i.seated, i.held, i.can))
    where
      seat_there : ltb w.helpers k ≡ false
      seat_there = le-ltb w.helpers k i.seat

  pub ready_world : (r : Ready) (i : IsReady m w k r) → step_world m w k r.seated i.body r.step ≡ (step_call m w k).world
  ready_world r i =
      ap (λ z. step_world m w k r.seated i.body z) i.step
      ∙ sym (rw (seat_there, i.seated, i.held, i.can))
    where
      seat_there : ltb w.helpers k ≡ false
      seat_there = le-ltb w.helpers k i.seat

  pub replied : (r : Ready) → Ok r ≡ ready_of m w k → Ok r.step.answer ≡ step_reply m w k
  replied r e = ready_reply r (is_ready r e)

  pub acted : (r : Ready) (w' : World B) → Ok r ≡ ready_of m w k → ((b : B) → get_or w.bodies k None ≡ Some b → w' ≡ step_world m w k r.seated b r.step) → w' ≡ (step_call m w k).world
  acted r w' e h = let i = is_ready r e in h i.body i.held ∙ ready_world r i

  -- A refusal.
  pub refused_reply : (x : StepRefusal) → Err x ≡ ready_of m w k → (Err x ≡ step_reply m w k) × (w ≡ (step_call m w k).world)
  refused_reply x e = by (ltb w.helpers k) e
    where
      inner : (s : Option Seated) (b : Option B) → Err x ≡ ready_by m w k s b → (Err x ≡ step_reply_by m w k s b) × (w ≡ (step_by m w k s b).world)
      inner None b h = (cc, refl)
      inner (Some s) None h = (cc, refl)
      inner (Some s) (Some b) h = can (can_step m w k s b) h
        where
          can : (t : Bool) → ◌≡◌ {A = Result Ready StepRefusal} (Err x) (cond t (Ok (record { seated = s; step = step_now m w k s b; kind = m.KIND })) (Err Lists-refused)) → (◌≡◌ {A = Result Answer StepRefusal} (Err x) (cond t (Ok (step_now m w k s b).answer) (Err Lists-refused))) × (w ≡ (cond t (step_did m w k s b (step_now m w k s b)) (untouched w)).world)
          can true g = let z : ◌≡◌ {A = ℕ} 0 1 = cc in absurd (omega arith)
          can false g = (cc, refl)

      by : (t : Bool) → Err x ≡ cond t (Err NoSeat) (ready_by m w k (get_or w.seats k None) (get_or w.bodies k None)) → (Err x ≡ cond t (Err NoSeat) (step_reply_by m w k (get_or w.seats k None) (get_or w.bodies k None))) × (w ≡ (cond t (untouched w) (step_by m w k (get_or w.seats k None) (get_or w.bodies k None))).world)
      by true h = (cc, refl)
      by false h = inner (get_or w.seats k None) (get_or w.bodies k None) h

-- The queue has room for who joins ---------------------------------------------

one_less : {X : Type 0} (f : X → ℕ) (l : List X) (k : ℕ) (d : X) → ((x : X) → f x ≤ 1) → k < length l → f (get_or l k d) ≡ 0 → total f l + 1 ≤ length l
one_less f [] k d b h e = absurd (omega arith)
one_less f (x ∷ l) zero d b h e = let z = all f l b in omega arith
  where
    all : {X : Type 0} (f : X → ℕ) (l : List X) → ((x : X) → f x ≤ 1) → total f l ≤ length l
    all f [] b = omega arith
    all f (x ∷ l) b = let z = all f l b in omega (arith, b x)
one_less f (x ∷ l) (suc k) d b h e = let z = one_less f l k d b (omega arith) e in omega (arith, b x)

two_less : {X : Type 0} (f : X → ℕ) (l : List X) (k : ℕ) (d : X) → ((x : X) → f x ≤ 1) → 0 < k → k < length l → f (get_or l 0 d) ≡ 0 → f (get_or l k d) ≡ 0 → total f l + 2 ≤ length l
two_less f [] k d b p h e g = absurd (omega arith)
two_less f (x ∷ l) zero d b p h e g = absurd (omega arith)
two_less f (x ∷ l) (suc k) d b p h e g = let z = one_less f l k d b (omega arith) g in omega arith

joined_few : (x : Option Seated) → joined_of x ≤ 1
joined_few None = omega arith
joined_few (Some s) = joined_one s.way s.phase

masters_apart : (y : Way) (p : Phase) → masters p ≡ true → joined y p ≡ 0
masters_apart y Reserve e = omega arith
masters_apart y MasterLook e = omega arith
masters_apart y Take e = omega arith
masters_apart y MasterRun e = omega arith
masters_apart y (Put c v) e = omega arith
masters_apart y Begin e = absurd (false≢true e)
masters_apart y Run e = absurd (false≢true e)
masters_apart y (Check c v) e = absurd (false≢true e)
masters_apart y Wait e = absurd (false≢true e)
masters_apart y (Look o) e = absurd (false≢true e)
masters_apart y (Prevalidate c i) e = absurd (false≢true e)
masters_apart y (Swap o c) e = absurd (false≢true e)
masters_apart y (Validate i) e = absurd (false≢true e)
masters_apart y (Mark i) e = absurd (false≢true e)
masters_apart y (Cell i) e = absurd (false≢true e)
masters_apart y Release e = absurd (false≢true e)
masters_apart y LetGo e = absurd (false≢true e)
masters_apart y Quit e = absurd (false≢true e)
masters_apart y Leave e = absurd (false≢true e)

master_waits_not : {B : Type 0} (used : ℕ) (q : List ℕ) (x : Option Seated) (b : Option B) → FairSeat used q 0 x b → joined_of x ≡ 0
master_waits_not used q None b f = refl
master_waits_not used q (Some s) b f = masters_apart s.way s.phase (f.chair ∙ eq-eqb 0 0 refl)

module _ {B : Type 0} (m : Ghosts B) (w : World B) (i : Sane w) (k : ℕ) (r : Ready) (y : IsReady m w k r) where
  abbrev s : Seated
  s = r.seated

  abbrev z : Step
  z = step_now m w k s y.body

  lent : Lent w
  lent = lent_from w (and_parts (same_sizes w) _ y.can).0

  fair : Fair w.used w.shared.queue k s (get_or w.bodies k None)
  fair = subst (λ x. FairSeat w.used w.shared.queue k x (get_or w.bodies k None)) y.seated (i.fair k)

  steady_now : Steady w.shared k (work_of w k s y.body) s.phase z
  steady_now = st m w i lent k s y.body y.seat y.seated

  inside : k < length w.seats
  inside = omega (arith, i.all_seated, i.sized.few, y.seat)

  pub lowers_some : z.effect ≡ NumberLowered → 0 < w.shared.core.number
  lowers_some e =
      let a : lowers s.phase ≡ 1 = subst (λ x. Lowering x (lowers s.phase)) e steady_now.lowering in
      let b : lowers_of (get_or w.seats k None) ≡ lowers s.phase = ap (λ x. lowers_of x) y.seated in
      omega (arith, total_at lowers_of w.seats k None inside, i.above)

  pub joins_room : z.effect ≡ QueueJoined → length w.shared.queue < 8
  joins_room e =
      let q : (joined s.way s.phase ≡ 0) × (of_next (joined s.way) z.next ≡ 1) = subst (λ x. Queues s.way s.phase x z.next) e steady_now.queue in
      let a : joined_of (get_or w.seats k None) ≡ 0 = ap (λ x. joined_of x) y.seated ∙ q.0 in
      let b = master_waits_not w.used w.shared.queue (get_or w.seats 0 None) (get_or w.bodies 0 None) (i.fair 0) in
      let c = two_less joined_of w.seats k None joined_few (helper q k refl) inside b a in
      omega (arith, i.short_queue, i.all_seated)
    where
      none : (o : Option Phase) → NextIs (λ p. masters p ≡ true) o → of_next (joined s.way) o ≡ 1 → ⊥
      none None c h = omega arith
      none (Some p) c h = let d = masters_apart s.way p c in omega arith

      chairs : (o : Option Phase) → masters s.phase ≡ true → NextIs (λ p. masters p ≡ masters s.phase) o → NextIs (λ p. masters p ≡ true) o
      chairs None h c = tt
      chairs (Some p) h c = c ∙ h

      helper : (joined s.way s.phase ≡ 0) × (of_next (joined s.way) z.next ≡ 1) → (j : ℕ) → k ≡ j → 0 < k
      helper q zero h = absurd (none z.next (chairs z.next (fair.chair ∙ eq-eqb k 0 h) steady_now.chair) q.1)
      helper q (suc j) h = omega arith

  not_master : (c : LogChange) → (Plain c → ⊥) → (masters s.phase ≡ true → Plain c) → 0 < k
  not_master c n p = by k refl
    where
      by : (j : ℕ) → k ≡ j → 0 < k
      by zero h = absurd (n (p (fair.chair ∙ eq-eqb k 0 h)))
      by (suc j) h = omega arith

  few : k ≤ 8
  few = omega (arith, i.sized.few, y.seat)

  pub reads_fit : ReadsFit z.log k s w.reads
  reads_fit = by z.log steady_now.few_reads steady_now.plain
    where
      by : (c : LogChange) → length (reads_after c (read_log w k s)) ≤ most_reads → (masters s.phase ≡ true → Plain c) → ReadsFit c k s w.reads
      by Same h p = tt
      by Emptied h p = tt
      by (Noted c) h p =
          let k≥1 = not_master (Noted c) (λ x. x) p in
          (k≥1, few, stretch_fits 64 k w.helpers 64 (length w.reads) y.seat (λ q. absurd (omega arith)) (omega arith) (omega (arith, lent.reads, i.sized.long_reads)), fair.few_reads, noted_within c (read_log w k s) 64 (rw (length_reads w i lent k s y.seat fair) fair.few_reads) h)
      by (Entered c v) h p = tt

  pub writes_fit : WritesFit z.log k s w.writes
  writes_fit = by z.log steady_now.few_writes steady_now.plain
    where
      by : (c : LogChange) → length (writes_after c (write_log w k s)) ≤ most_writes → (masters s.phase ≡ true → Plain c) → WritesFit c k s w.writes
      by Same h p = tt
      by Emptied h p = tt
      by (Noted c) h p = tt
      by (Entered c v) h p =
          let k≥1 = not_master (Entered c v) (λ x. x) p in
          (k≥1, few, stretch_fits 32 k w.helpers 32 (length w.writes) y.seat (λ q. absurd (omega arith)) (omega arith) (omega (arith, lent.writes, i.sized.long_writes)), fair.few_writes, entered_within c v (write_log w k s) 32 (rw (length_writes w i lent k s y.seat fair) fair.few_writes) h)

  pub can_act : CanAct m w k r
  can_act = record {
    kind_is = y.kind;
    seat = few;
    journal_is = lent.journal;
    some_marks = omega (arith, lent.marks, i.sized.some_marks);
    small = omega (arith, i.below);
    few_made = omega (arith, fair.few_made, i.used_within, i.sized.few_records);
    lowers = λ e. lowers_some (ap (λ (x : Step). x.effect) (sym y.step) ∙ e);
    joins = λ e. joins_room (ap (λ (x : Step). x.effect) (sym y.step) ∙ e);
    reads = subst (λ (x : Step). ReadsFit x.log k s w.reads) (sym y.step) reads_fit;
    writes = subst (λ (x : Step). WritesFit x.log k s w.writes) (sym y.step) writes_fit;
  }

-- The same of a book that is merely known to be sane.
reads_in : (c : LogChange) (k : ℕ) (s : Seated) (l : List ℕ) → ∥ ReadsFit c k s l ∥₁ → ReadsFit c k s l
reads_in Same k s l h = tt
reads_in Emptied k s l h = tt
reads_in (Noted c) k s l h =
    (∥∥₁_elim h le_prop (λ x. x.0), ∥∥₁_elim h le_prop (λ x. x.1), ∥∥₁_elim h le_prop (λ x. x.2), ∥∥₁_elim h le_prop (λ x. x.3), ∥∥₁_elim h le_prop (λ x. x.4))
reads_in (Entered c v) k s l h = tt

writes_in : (c : LogChange) (k : ℕ) (s : Seated) (l : List Written) → ∥ WritesFit c k s l ∥₁ → WritesFit c k s l
writes_in Same k s l h = tt
writes_in Emptied k s l h = tt
writes_in (Noted c) k s l h = tt
writes_in (Entered c v) k s l h =
    (∥∥₁_elim h le_prop (λ x. x.0), ∥∥₁_elim h le_prop (λ x. x.1), ∥∥₁_elim h le_prop (λ x. x.2), ∥∥₁_elim h le_prop (λ x. x.3), ∥∥₁_elim h le_prop (λ x. x.4))

pub acts : {B : Type 0} (m : Ghosts B) (w : World B) → ∥ Sane w ∥₁ → (k : ℕ) (r : Ready) → Ok r ≡ ready_of m w k → CanAct m w k r
acts {B} m w h k r e = record {
  kind_is = (is_ready m w k r e).kind;
  seat = ∥∥₁_elim h le_prop (λ i. (can i).seat);
  journal_is = (lent_from w (and_parts (same_sizes w) _ (is_ready m w k r e).can).0).journal;
  some_marks = ∥∥₁_elim h le_prop (λ i. (can i).some_marks);
  small = ∥∥₁_elim h le_prop (λ i. (can i).small);
  few_made = ∥∥₁_elim h le_prop (λ i. (can i).few_made);
  lowers = λ z. ∥∥₁_elim h le_prop (λ i. (can i).lowers z);
  joins = λ z. ∥∥₁_elim h le_prop (λ i. (can i).joins z);
  reads = reads_in r.step.log k r.seated w.reads (∥∥₁_map h (λ i. (can i).reads));
  writes = writes_in r.step.log k r.seated w.writes (∥∥₁_map h (λ i. (can i).writes));
}
  where
    can : Sane w → CanAct m w k r
    can i = can_act m w i k r (is_ready m w k r e)
