-- Every call keeps a book sane, whatever the lists hold.
use Rattle.std.proofs.Common.{◌≡◌, ℕ, zero, suc, ◌+◌, ◌-◌, ◌*◌, ◌<◌, ◌≤◌, Bool, true, false, cond, not, ◌&&◌, ◌||◌, eqb, ltb, leb, List, [], ◌∷◌, ◌++◌, length, get_or, set, replicate, Some, None, Option, sym, refl, ap, ◌∙◌, subst, true≢false, mul-le-mul_left, arith, length-append, length-set, get_or-set_other, get_or-set_same}
use mathlib.Core.Bool.{false≢true}
use Rattle.std.proofs.lemmas.Bool.{eqb-true, eqb-false, eq-eqb, ne_eqb, ltb-true, ltb-false, leb-false, cond_both, and_parts, or_parts, or_right}
use Rattle.body.specs.declared.body.Body.{Ghosts}
use Rattle.journal.specs.declared.record.Record.{Record}
use Rattle.lane.specs.declared.phase.Phase.{Phase}
use Rattle.lane.specs.declared.phase.Phase.TheVariants.{Reserve, MasterLook, Take, MasterRun, Put, Begin, Run, Check, Wait, Look, Prevalidate, Swap, Validate, Mark, Cell, Release, LetGo, Quit, Leave}
use Rattle.lane.specs.declared.phase.Way.{Way}
use Rattle.lane.specs.declared.phase.Way.TheVariants.{One, Two, Three}
use Rattle.lane.specs.declared.refusal.OpenRefusal.{OpenRefusal}
use Rattle.lane.specs.declared.refusal.SeatRefusal.{SeatRefusal}
use Rattle.lane.specs.declared.seated.Seated.{Seated}
use Rattle.lane.specs.declared.step.Effect.{Effect}
use Rattle.lane.specs.declared.step.Effect.TheVariants.{Unchanged, FlagSet, LaneTaken, MarkSet, CellSet, NumberRaised, NumberLowered, QueueJoined, QueueLeft}
use Rattle.lane.specs.declared.step.LogChange.{LogChange}
use Rattle.lane.specs.declared.step.LogChange.TheVariants.{Same, Emptied, Noted, Entered}
use Rattle.lane.specs.declared.step.Step.{Step}
use Rattle.lane.specs.declared.written.Written.{Written}
use Rattle.lane.specs.Calls.{After, Opened, top_number, open_refusal, open_world, some_beyond, is_idle, way_of, needed, kept, first_phase, way_refusal, seat_refusal, newly_seated, taken_way, seat_world, seat_by, seat_call, record_by, made_by, used_after, seated_to, same_sizes, has_room, record_of, moved, seated_after, step_world, step_now, can_step, step_by, step_call, paused_as, pause_call, resume_call}
use Rattle.lane.specs.Effects.{shared_after, reads_after, writes_after}
use Rattle.lane.specs.Logs.{has, mem, enter, most_reads, most_writes}
use Rattle.lane.specs.Sane.{raises, lowers, masters, entry_at, queued, joined, of_seat, total, raises_of, lowers_of, joined_of, Fair, FairSeat, Sane}
use Rattle.lane.specs.State.{Shared, odd, without}
use Rattle.lane.specs.Worlds.{World, reads_from, writes_from, read_log, write_log, work_of, reads_used, writes_used}
use Rattle.lane.proofs.Steady.{of_next, NextIs, Queues, Plain, Steady, steady}
use Rattle.lane.proofs.Stretched.{length_stretch, enter_new, enter_old}

-- Lists ------------------------------------------------------------------------

pub get_d_set : {X : Type 0} (l : List X) (k j : ℕ) (x d : X) → k < length l → get_or (set l k x) j d ≡ cond (eqb k j) x (get_or l j d)
get_d_set l k j x d h = by (eqb k j) refl
  where
    by : (b : Bool) → eqb k j ≡ b → get_or (set l k x) j d ≡ cond b x (get_or l j d)
    by true e = subst (λ z. get_or (set l k x) z d ≡ x) (eqb-true k j e) (get_or-set_same l k x d h)
    by false e = get_or-set_other l k j x d (λ q. eqb-false k j e (sym q))

pub getD_none : {X : Type 0} (n j : ℕ) → ◌≡◌ {A = Option X} (get_or (replicate n None) j None) None
getD_none zero j = refl
getD_none (suc n) zero = refl
getD_none (suc n) (suc j) = getD_none n j

pub total_set : {X : Type 0} (f : X → ℕ) (l : List X) (k : ℕ) (x d : X) → k < length l → total f (set l k x) + f (get_or l k d) ≡ total f l + f x
total_set f [] k x d h = absurd (omega arith)
total_set f (y ∷ l) zero x d h = omega arith
total_set f (y ∷ l) (suc k) x d h = let z = total_set f l k x d (omega arith) in omega arith

pub total_at : {X : Type 0} (f : X → ℕ) (l : List X) (k : ℕ) (d : X) → k < length l → f (get_or l k d) ≤ total f l
total_at f [] k d h = absurd (omega arith)
total_at f (y ∷ l) zero d h = omega arith
total_at f (y ∷ l) (suc k) d h = let z = total_at f l k d (omega arith) in omega arith

pub total_zero : {X : Type 0} (f : X → ℕ) (n : ℕ) (x : X) → f x ≡ 0 → total f (replicate n x) ≡ 0
total_zero f zero x e = refl
total_zero f (suc n) x e = let z = total_zero f n x e in omega arith

-- The queue --------------------------------------------------------------------

mem_last : (k : ℕ) (q : List ℕ) → mem k (q ++ (k ∷ [])) ≡ true
mem_last k [] = rw (eq-eqb k k refl)
mem_last k (x ∷ q) = or_right (eqb x k) (mem k (q ++ (k ∷ []))) (mem_last k q)

mem_before : (j k : ℕ) (q : List ℕ) → mem j q ≡ true → mem j (q ++ (k ∷ [])) ≡ true
mem_before j k [] h = absurd (false≢true h)
mem_before j k (x ∷ q) h = by (λ z. mem_before j k q z) (eqb x j) h
  where
    by : (mem j q ≡ true → mem j (q ++ (k ∷ [])) ≡ true) → (r : Bool) → (r || mem j q) ≡ true → (r || mem j (q ++ (k ∷ []))) ≡ true
    by ih true e = refl
    by ih false e = ih e

without_few : (k : ℕ) (q : List ℕ) → length (without k q) ≤ length q
without_few k [] = omega arith
without_few k (x ∷ q) = let z = without_few k q in cond_both (eqb x k) _ _ (λ y. length y ≤ suc (length q)) (λ e. omega arith) (λ e. omega arith)

without_fewer : (k : ℕ) (q : List ℕ) → mem k q ≡ true → length (without k q) < length q
without_fewer k [] h = absurd (false≢true h)
without_fewer k (x ∷ q) h = by (λ z. without_fewer k q z) (eqb x k) h
  where
    by : (mem k q ≡ true → length (without k q) < length q) → (r : Bool) → (r || mem k q) ≡ true → length (cond r (without k q) (x ∷ without k q)) < suc (length q)
    by ih true e = let z = without_few k q in omega arith
    by ih false e = let z = ih e in omega arith

mem_without : (j k : ℕ) (q : List ℕ) → (k ≡ j → ⊥) → mem j q ≡ true → mem j (without k q) ≡ true
mem_without j k [] ne h = absurd (false≢true h)
mem_without j k (x ∷ q) ne h = by (λ z. mem_without j k q ne z) (eqb x k) refl (eqb x j) refl h
  where
    by : (mem j q ≡ true → mem j (without k q) ≡ true) → (r : Bool) → eqb x k ≡ r → (t : Bool) → eqb x j ≡ t → (t || mem j q) ≡ true → mem j (cond r (without k q) (x ∷ without k q)) ≡ true
    by ih true e true f h' = absurd (ne (sym (eqb-true x k e) ∙ eqb-true x j f))
    by ih true e false f h' = ih h'
    by ih false e true f h' = rw f
    by ih false e false f h' = or_right (eqb x j) (mem j (without k q)) (ih h')

queued_one : (p : Phase) → queued p ≤ 1
queued_one Reserve = omega arith
queued_one MasterLook = omega arith
queued_one Take = omega arith
queued_one MasterRun = omega arith
queued_one (Put c v) = omega arith
queued_one Begin = omega arith
queued_one Run = omega arith
queued_one (Check c v) = omega arith
queued_one Wait = omega arith
queued_one (Look o) = omega arith
queued_one (Prevalidate c i) = omega arith
queued_one (Swap o c) = omega arith
queued_one (Validate i) = omega arith
queued_one (Mark i) = omega arith
queued_one (Cell i) = omega arith
queued_one Release = omega arith
queued_one LetGo = omega arith
queued_one Quit = omega arith
queued_one Leave = omega arith

pub joined_one : (y : Way) (p : Phase) → joined y p ≤ 1
joined_one One p = omega arith
joined_one Two p = omega (arith, queued_one p)
joined_one Three p = omega (arith, queued_one p)

raises_two : (p : Phase) → raises p ≤ 2
raises_two Reserve = omega arith
raises_two MasterLook = omega arith
raises_two Take = omega arith
raises_two MasterRun = omega arith
raises_two (Put c v) = omega arith
raises_two Begin = omega arith
raises_two Run = omega arith
raises_two (Check c v) = omega arith
raises_two Wait = omega arith
raises_two (Look o) = omega arith
raises_two (Prevalidate c i) = omega arith
raises_two (Swap o c) = omega arith
raises_two (Validate i) = omega arith
raises_two (Mark i) = omega arith
raises_two (Cell i) = omega arith
raises_two Release = omega arith
raises_two LetGo = omega arith
raises_two Quit = omega arith
raises_two Leave = omega arith

all_raise_two : (l : List (Option Seated)) → total raises_of l ≤ 2 * length l
all_raise_two [] = omega arith
all_raise_two (None ∷ l) = let z = all_raise_two l in omega arith
all_raise_two (Some s ∷ l) = let z = all_raise_two l in omega (arith, raises_two s.phase)

-- What a step of seat k does to the queue.
record QueueKept (k : ℕ) (q q' : List ℕ) (before after : ℕ) : Type 0 where
  shorter : length q' + before ≤ length q + after
  own : 0 < after → mem k q' ≡ true
  others : (j : ℕ) → (k ≡ j → ⊥) → mem j q ≡ true → mem j q' ≡ true

queue_same : (k : ℕ) (q : List ℕ) (before after : ℕ) → after ≡ before → (0 < before → mem k q ≡ true) → QueueKept k q q before after
queue_same k q before after e w = record { shorter = omega arith; own = λ h. w (omega arith); others = λ j ne h. h }

queue_kept : (k : ℕ) (g : Shared) (y : Way) (p : Phase) (e : Effect) (x : Option Phase) → Queues y p e x → (0 < joined y p → mem k g.queue ≡ true) → QueueKept k g.queue (shared_after k e g).queue (joined y p) (of_next (joined y) x)
queue_kept k g y p Unchanged x h w = queue_same k g.queue _ _ h w
queue_kept k g y p FlagSet x h w = queue_same k g.queue _ _ h w
queue_kept k g y p LaneTaken x h w = queue_same k g.queue _ _ h w
queue_kept k g y p (MarkSet c) x h w = queue_same k g.queue _ _ h w
queue_kept k g y p (CellSet c v) x h w = queue_same k g.queue _ _ h w
queue_kept k g y p NumberRaised x h w = queue_same k g.queue _ _ h w
queue_kept k g y p NumberLowered x h w = queue_same k g.queue _ _ h w
queue_kept k g y p QueueJoined x h w = record {
  shorter = rw length-append (omega (arith, h.0, h.1));
  own = λ _. mem_last k g.queue;
  others = λ j ne q. mem_before j k g.queue q;
}
queue_kept k g y p QueueLeft x h w = record {
  shorter = by (joined y p) refl;
  own = λ l. absurd (omega arith);
  others = λ j ne q. mem_without j k g.queue ne q;
}
  where
    by : (n : ℕ) → joined y p ≡ n → length (without k g.queue) + joined y p ≤ length g.queue + of_next (joined y) x
    by zero e = let z = without_few k g.queue in omega arith
    by (suc n) e = let z = without_fewer k g.queue (w (omega arith)) in omega (arith, joined_one y p)

-- Logs -------------------------------------------------------------------------

pub used_reads : (l : LogChange) (R : List ℕ) (n : ℕ) → length R ≡ n → reads_used l R n ≡ length (reads_after l R)
used_reads Same R n e = sym e
used_reads Emptied R n e = refl
used_reads (Noted c) R n e = by (mem c R)
  where
    by : (b : Bool) → cond b n (n + 1) ≡ length (cond b R (R ++ (c ∷ [])))
    by true = sym e
    by false = rw length-append (omega arith)
used_reads (Entered c v) R n e = sym e

pub used_writes : (l : LogChange) (W : List Written) (n : ℕ) → length W ≡ n → writes_used l W n ≡ length (writes_after l W)
used_writes Same W n e = sym e
used_writes Emptied W n e = refl
used_writes (Noted c) W n e = sym e
used_writes (Entered c v) W n e = by (has c W) refl
  where
    by : (b : Bool) → has c W ≡ b → cond b n (n + 1) ≡ length (enter c v W)
    by true h = rw (enter_old c v W h, length-set) (sym e)
    by false h = rw (enter_new c v W h, length-append) (omega arith)

plain_reads : (l : LogChange) (R : List ℕ) (n : ℕ) → Plain l → n ≡ 0 → reads_used l R n ≡ 0
plain_reads Same R n p e = e
plain_reads Emptied R n p e = refl
plain_reads (Noted c) R n p e = absurd p
plain_reads (Entered c v) R n p e = absurd p

plain_writes : (l : LogChange) (W : List Written) (n : ℕ) → Plain l → n ≡ 0 → writes_used l W n ≡ 0
plain_writes Same W n p e = e
plain_writes Emptied W n p e = refl
plain_writes (Noted c) W n p e = absurd p
plain_writes (Entered c v) W n p e = absurd p

-- Records ----------------------------------------------------------------------

more_used : (room : Bool) (r : Option Record) (n : ℕ) → n ≤ used_after room r n
more_used room None n = omega arith
more_used true (Some r) n = omega arith
more_used false (Some r) n = omega arith

used_fits : (used size : ℕ) (r : Option Record) → used ≤ size → used_after (ltb used size) r used ≤ size
used_fits used size None h = h
used_fits used size (Some r) h = cond_both (ltb used size) _ _ (λ n. n ≤ size) (λ e. let z = ltb-true used size e in omega arith) (λ e. h)

made_used : (e : Effect) (room : Bool) (n : ℕ) (c : Option Record) (made used : ℕ) → made ≤ used → made_by e room made ≤ used_after room (record_by e n c) used
made_used Unchanged room n c made used h = let z = more_used room c used in omega arith
made_used FlagSet room n c made used h = let z = more_used room c used in omega arith
made_used LaneTaken room n c made used h = let z = more_used room c used in omega arith
made_used (MarkSet a) room n c made used h = let z = more_used room c used in omega arith
made_used (CellSet a v) true n c made used h = omega arith
made_used (CellSet a v) false n c made used h = h
made_used NumberRaised room n c made used h = let z = more_used room c used in omega arith
made_used NumberLowered room n c made used h = let z = more_used room c used in omega arith
made_used QueueJoined room n c made used h = let z = more_used room c used in omega arith
made_used QueueLeft room n c made used h = let z = more_used room c used in omega arith

-- The lengths of the lists -----------------------------------------------------

pub record Lent {B : Type 0} (w : World B) : Type 0 where
  pub cells : length w.shared.core.cells ≡ w.sizes.cells
  pub marks : length w.shared.core.marks ≡ w.sizes.marks
  pub reads : length w.reads ≡ w.sizes.reads
  pub writes : length w.writes ≡ w.sizes.writes
  pub journal : length w.journal ≡ w.sizes.journal

pub lent_from : {B : Type 0} (w : World B) → same_sizes w ≡ true → Lent w
lent_from w e =
    let a = and_parts (eqb (length w.shared.core.cells) w.sizes.cells && eqb (length w.shared.core.marks) w.sizes.marks) _ e in
    let b = and_parts (eqb (length w.shared.core.cells) w.sizes.cells) _ a.0 in
    let c = and_parts (eqb (length w.reads) w.sizes.reads && eqb (length w.writes) w.sizes.writes) _ a.1 in
    let d = and_parts (eqb (length w.reads) w.sizes.reads) _ c.0 in
    record { cells = eqb-true _ _ b.0; marks = eqb-true _ _ b.1; reads = eqb-true _ _ d.0; writes = eqb-true _ _ d.1; journal = eqb-true _ _ c.1 }

-- A helper's stretch lies within the long list
pub stretch_fits : (size k helpers n len : ℕ) → k ≤ helpers → (k ≡ 0 → n ≡ 0) → n ≤ size → size * helpers ≤ len → size * (k - 1) + n ≤ len
stretch_fits size zero helpers n len h z l f = let e : size * (0 - 1) ≡ 0 = omega arith in omega (arith, z refl)
stretch_fits size (suc k) helpers n len h z l f = let a = mul-le-mul_left size h in let e : suc k - 1 ≡ k = omega arith in rw e (omega (arith, a))

module _ {B : Type 0} (w : World B) (i : Sane w) (n : Lent w) (k : ℕ) (s : Seated) (l : k ≤ w.helpers) (f : Fair w.used w.shared.queue k s (get_or w.bodies k None)) where
  pub length_reads : length (read_log w k s) ≡ s.reads
  length_reads = length_stretch w.reads (reads_from k) s.reads (stretch_fits 64 k w.helpers s.reads (length w.reads) l (λ e. (f.none_logged e).0) f.few_reads (omega (arith, n.reads, i.sized.long_reads)))

  pub length_writes : length (write_log w k s) ≡ s.writes
  length_writes = length_stretch w.writes (writes_from k) s.writes (stretch_fits 32 k w.helpers s.writes (length w.writes) l (λ e. (f.none_logged e).1) f.few_writes (omega (arith, n.writes, i.sized.long_writes)))

-- An accepted opening ---------------------------------------------------------

pub record Opens (o : Opened) : Type 0 where
  pub some_cells : 0 < length o.cells
  pub few_cells : length o.cells ≤ 4096
  pub some_marks : 0 < length o.marks
  pub few_marks : length o.marks ≤ 1024
  pub few : o.helpers ≤ 8
  pub long_reads : most_reads * o.helpers ≤ length o.reads
  pub long_writes : most_writes * o.helpers ≤ length o.writes
  pub few_records : length o.journal ≤ 65536
  pub even : odd o.number ≡ false
  pub small : o.number < top_number
  pub within : some_beyond o.cells ≡ false

not_refused : (x : OpenRefusal) (p : Bool) (r : Option OpenRefusal) → cond p (Some x) r ≡ None → (p ≡ false) × (r ≡ None)
not_refused x true r e = cc
not_refused x false r e = (refl, e)

positive : (n : ℕ) → eqb n 0 ≡ false → 0 < n
positive n e = let z = eqb-false n 0 e in omega arith

pub opens_well : (o : Opened) → open_refusal o ≡ None → Opens o
opens_well o e =
    let a = not_refused _ (eqb (length o.cells) 0 || ltb 4096 (length o.cells)) _ e in
    let b = not_refused _ (eqb (length o.marks) 0 || ltb 1024 (length o.marks)) _ a.1 in
    let c = not_refused _ (ltb 8 o.helpers || (ltb (length o.reads) (most_reads * o.helpers) || ltb (length o.writes) (most_writes * o.helpers))) _ b.1 in
    let d = not_refused _ (ltb 65536 (length o.journal)) _ c.1 in
    let f = not_refused _ (odd o.number || leb top_number o.number) _ d.1 in
    let h = not_refused _ (some_beyond o.cells) _ f.1 in
    let a' = or_parts (eqb (length o.cells) 0) _ a.0 in
    let b' = or_parts (eqb (length o.marks) 0) _ b.0 in
    let c' = or_parts (ltb 8 o.helpers) _ c.0 in
    let c'' = or_parts (ltb (length o.reads) (most_reads * o.helpers)) _ c'.1 in
    let f' = or_parts (odd o.number) _ f.0 in
    record {
      some_cells = positive _ a'.0;
      few_cells = ltb-false _ _ a'.1;
      some_marks = positive _ b'.0;
      few_marks = ltb-false _ _ b'.1;
      few = ltb-false _ _ c'.0;
      long_reads = ltb-false _ _ c''.0;
      long_writes = ltb-false _ _ c''.1;
      few_records = ltb-false _ _ d.0;
      even = f'.0;
      small = leb-false _ _ f'.1;
      within = h.0;
    }

-- A step -----------------------------------------------------------------------

next_seated : (f : Phase → ℕ) (o : Option Phase) (s : Seated) → of_seat (λ t. f t.phase) (seated_to o s) ≡ of_next f o
next_seated f None s = refl
next_seated f (Some p) s = refl

next_joined : (o : Option Phase) (s : Seated) → joined_of (seated_to o s) ≡ of_next (joined s.way) o
next_joined None s = refl
next_joined (Some p) s = refl

module _ {B : Type 0} (m : Ghosts B) where
  module _ (w : World B) (i : Sane w) (n : Lent w) (k : ℕ) (s : Seated) (b : B) (l : k ≤ w.helpers) (at : get_or w.seats k None ≡ Some s) where
    abbrev z : Step
    z = step_now m w k s b

    inside : k < length w.seats
    inside = omega (arith, i.all_seated, i.sized.few)

    inside_bodies : k < length w.bodies
    inside_bodies = omega (arith, i.all_bodies, i.sized.few)

    fair_now : Fair w.used w.shared.queue k s (get_or w.bodies k None)
    fair_now = subst (λ x. FairSeat w.used w.shared.queue k x (get_or w.bodies k None)) at (i.fair k)

    lowers_now : lowers s.phase ≤ w.shared.core.number
    lowers_now = let e : lowers_of (get_or w.seats k None) ≡ lowers s.phase = ap (λ x. lowers_of x) at in omega (arith, total_at lowers_of w.seats k None inside, i.above)

    pub st : Steady w.shared k (work_of w k s b) s.phase (step_now m w k s b)
    st = steady m w.shared k (work_of w k s b) (rw (length_reads w i n k s l fair_now) fair_now.few_reads) (rw (length_writes w i n k s l fair_now) fair_now.few_writes) s.phase fair_now.near lowers_now

    kept_queue : QueueKept k w.shared.queue (shared_after k z.effect w.shared).queue (joined s.way s.phase) (of_next (joined s.way) z.next)
    kept_queue = queue_kept k w.shared s.way s.phase z.effect z.next st.queue fair_now.waits

    abbrev used' : ℕ
    used' = used_after (has_room m w) (record_of m w k s z) w.used

    abbrev s' : Seated
    s' = moved m w k s z

    few_reads' : reads_used z.log (read_log w k s) s.reads ≤ most_reads
    few_reads' = rw (used_reads z.log (read_log w k s) s.reads (length_reads w i n k s l fair_now)) st.few_reads

    few_writes' : writes_used z.log (write_log w k s) s.writes ≤ most_writes
    few_writes' = rw (used_writes z.log (write_log w k s) s.writes (length_writes w i n k s l fair_now)) st.few_writes

    fair_own : FairSeat used' (shared_after k z.effect w.shared).queue k (seated_after m w k s z) (Some b)
    fair_own = by z.next st.chair st.near kept_queue.own
      where
        by : (o : Option Phase) → NextIs (λ q. masters q ≡ masters s.phase) o → NextIs (λ q. entry_at q ≤ most_reads + most_writes) o → (0 < of_next (joined s.way) o → mem k (shared_after k z.effect w.shared).queue ≡ true) → FairSeat {B = B} used' (shared_after k z.effect w.shared).queue k (seated_to o s') (Some b)
        by None c e q = tt
        by (Some p) c e q = record {
          held = refl;
          chair = c ∙ fair_now.chair;
          few_reads = few_reads';
          few_writes = few_writes';
          none_logged = λ h.
              (let t : Plain z.log = st.plain (fair_now.chair ∙ eq-eqb k 0 h) in
              (plain_reads z.log (read_log w k s) s.reads t (fair_now.none_logged h).0, plain_writes z.log (write_log w k s) s.writes t (fair_now.none_logged h).1));
          few_made = made_used z.effect (has_room m w) _ _ s.made w.used fair_now.few_made;
          near = e;
          waits = q;
        }

    fair_other : (j : ℕ) → (k ≡ j → ⊥) → FairSeat used' (shared_after k z.effect w.shared).queue j (get_or w.seats j None) (get_or w.bodies j None)
    fair_other j ne = by (get_or w.seats j None) (i.fair j)
      where
        by : (x : Option Seated) → FairSeat w.used w.shared.queue j x (get_or w.bodies j None) → FairSeat used' (shared_after k z.effect w.shared).queue j x (get_or w.bodies j None)
        by None f = tt
        by (Some t) f = record {
          held = f.held;
          chair = f.chair;
          few_reads = f.few_reads;
          few_writes = f.few_writes;
          none_logged = f.none_logged;
          few_made = let a = more_used (has_room m w) (record_of m w k s z) w.used in omega (arith, f.few_made);
          near = f.near;
          waits = λ h. kept_queue.others j ne (f.waits h);
        }

    -- After a step
    went : (b' : B) → (j : ℕ) → FairSeat used' (shared_after k z.effect w.shared).queue j (get_or (set w.seats k (seated_after m w k s z)) j None) (get_or (set w.bodies k (Some b')) j None)
    went b' j = rw (get_d_set w.seats k j (seated_after m w k s z) None inside, get_d_set w.bodies k j (Some b') None inside_bodies) (by (eqb k j) refl)
      where
        own : FairSeat used' (shared_after k z.effect w.shared).queue k (seated_after m w k s z) (Some b')
        own = re (seated_after m w k s z) fair_own
          where
            re : (x : Option Seated) → FairSeat used' (shared_after k z.effect w.shared).queue k x (Some b) → FairSeat used' (shared_after k z.effect w.shared).queue k x (Some b')
            re None f = tt
            re (Some t) f = record { held = refl; chair = f.chair; few_reads = f.few_reads; few_writes = f.few_writes; none_logged = f.none_logged; few_made = f.few_made; near = f.near; waits = f.waits }

        by : (r : Bool) → eqb k j ≡ r → FairSeat used' (shared_after k z.effect w.shared).queue j (cond r (seated_after m w k s z) (get_or w.seats j None)) (cond r (Some b') (get_or w.bodies j None))
        by true e = subst (λ x. FairSeat used' (shared_after k z.effect w.shared).queue x (seated_after m w k s z) (Some b')) (eqb-true k j e) own
        by false e = fair_other j (eqb-false k j e)

    pub sane_did : Sane (step_world m w k s b (step_now m w k s b))
    sane_did = record {
      sized = i.sized;
      all_seated = length-set w.seats k _ ∙ i.all_seated;
      all_bodies = length-set w.bodies k _ ∙ i.all_bodies;
      used_within = used_fits w.used w.sizes.journal (record_of m w k s z) i.used_within;
      below =
          (let a = total_set raises_of w.seats k (seated_after m w k s z) None inside in
          let c : raises_of (get_or w.seats k None) ≡ raises s.phase = ap (λ x. raises_of x) at in
          let d = next_seated raises z.next s' in
          omega (arith, st.below, i.below));
      above =
          (let a = total_set lowers_of w.seats k (seated_after m w k s z) None inside in
          let c : lowers_of (get_or w.seats k None) ≡ lowers s.phase = ap (λ x. lowers_of x) at in
          let d = next_seated lowers z.next s' in
          omega (arith, st.above, i.above, total_at lowers_of w.seats k None inside));
      short_queue =
          (let a = total_set joined_of w.seats k (seated_after m w k s z) None inside in
          let c : joined_of (get_or w.seats k None) ≡ joined s.way s.phase = ap (λ x. joined_of x) at in
          let d = next_joined z.next s' in
          omega (arith, kept_queue.shorter, i.short_queue));
      fair = went _;
    }

  pub sane_step : (w : World B) → Sane w → (k : ℕ) → Sane (step_call m w k).world
  sane_step w i k = cond_both (ltb w.helpers k) _ _ (λ (d : After B). Sane d.world) (λ e. i) (λ e. by (ltb-false w.helpers k e) (get_or w.seats k None) refl (get_or w.bodies k None))
    where
      by : k ≤ w.helpers → (x : Option Seated) → get_or w.seats k None ≡ x → (y : Option B) → Sane (step_by m w k x y).world
      by l None e y = i
      by l (Some s) e None = i
      by l (Some s) e (Some b) = cond_both (can_step m w k s b) _ _ (λ (d : After B). Sane d.world) (λ c. sane_did w i (lent_from w (and_parts (same_sizes w) _ c).0) k s b l e) (λ c. i)

  idle_none : (x : Option Seated) → not (is_idle x) ≡ false → x ≡ None
  idle_none None e = refl
  idle_none (Some s) e = absurd (true≢false e)

  first_masters : (k : ℕ) → masters (first_phase k) ≡ eqb k 0
  first_masters zero = refl
  first_masters (suc k) = sym (ne_eqb (suc k) 0 (λ e. omega arith))

  first_plain : (k : ℕ) → (entry_at (first_phase k) ≡ 0) × (lowers (first_phase k) ≡ 0) × (queued (first_phase k) ≡ 0)
  first_plain zero = (refl, refl, refl)
  first_plain (suc k) = (refl, refl, refl)

  not_joined : (y : Way) (p : Phase) → queued p ≡ 0 → joined y p ≡ 0
  not_joined One p e = omega arith
  not_joined Two p e = omega arith
  not_joined Three p e = omega arith

  -- What an accepted seating is.
  pub record Accepted (w : World B) (k y : ℕ) (b : B) : Type 0 where
    pub seat : k ≤ w.helpers
    pub idle : get_or w.seats k None ≡ None
    pub way : Way
    pub is_way : way_of k y ≡ Some way
    pub reaches : m.reach b ≤ w.sizes.cells
    pub number : w.shared.core.number < top_number
    pub records : w.used + kept w.seats + needed k (m.len b) ≤ w.sizes.journal

  none_of : (x : SeatRefusal) (p : Bool) (r : Option SeatRefusal) → cond p (Some x) r ≡ None → (p ≡ false) × (r ≡ None)
  none_of x true r e = cc
  none_of x false r e = (refl, e)

  pub accepted : (w : World B) (k y : ℕ) (b : B) → seat_refusal m w k y b ≡ None → Accepted w k y b
  accepted w k y b e =
      let a1 = none_of _ (ltb w.helpers k) _ e in
      let a2 = none_of _ (not (is_idle (get_or w.seats k None))) _ a1.1 in
      by (way_of k y) refl (ltb-false _ _ a1.0) (idle_none _ a2.0) a2.1
    where
      by : (o : Option Way) → way_of k y ≡ o → k ≤ w.helpers → get_or w.seats k None ≡ None → way_refusal m w k b o ≡ None → Accepted w k y b
      by None q l n r = cc
      by (Some x) q l n r =
          let b1 = none_of _ (ltb w.sizes.cells (m.reach b)) _ r in
          let b2 = none_of _ (leb top_number w.shared.core.number) _ b1.1 in
          let b3 = none_of _ (ltb w.sizes.journal (w.used + kept w.seats + needed k (m.len b))) _ b2.1 in
          record { seat = l; idle = n; way = x; is_way = q; reaches = ltb-false _ _ b1.0; number = leb-false _ _ b2.0; records = ltb-false _ _ b3.0 }

  pub sane_seated : (w : World B) → Sane w → (k y t : ℕ) (b : B) → Accepted w k y b → Sane (seat_world m w k y t b)
  sane_seated w i k y t b a = record {
    sized = i.sized;
    all_seated = length-set w.seats k _ ∙ i.all_seated;
    all_bodies = length-set w.bodies k _ ∙ i.all_bodies;
    used_within = i.used_within;
    below = omega (arith, a.number, all_raise_two (set w.seats k (Some new)), length-set w.seats k (Some new), i.all_seated);
    above =
        (let c : lowers_of (get_or w.seats k None) ≡ 0 = ap (λ x. lowers_of x) a.idle in
        omega (arith, i.above, total_set lowers_of w.seats k (Some new) None inside, (first_plain k).1));
    short_queue =
        (let c : joined_of (get_or w.seats k None) ≡ 0 = ap (λ x. joined_of x) a.idle in
        let d = not_joined new.way (first_phase k) (first_plain k).2 in
        omega (arith, i.short_queue, total_set joined_of w.seats k (Some new) None inside));
    fair = λ j. rw (get_d_set w.seats k j (Some new) None inside, get_d_set w.bodies k j (Some b) None inside_bodies) (by j (eqb k j) refl);
  }
    where
      new : Seated
      new = newly_seated m k (taken_way m (way_of k y)) t b

      inside : k < length w.seats
      inside = omega (arith, i.all_seated, i.sized.few, a.seat)

      inside_bodies : k < length w.bodies
      inside_bodies = omega (arith, i.all_bodies, i.sized.few, a.seat)

      own : Fair w.used w.shared.queue k (newly_seated m k (taken_way m (way_of k y)) t b) (Some b)
      own = record {
        held = refl;
        chair = first_masters k;
        few_reads = omega arith;
        few_writes = omega arith;
        none_logged = λ _. (refl, refl);
        few_made = omega arith;
        near = omega (arith, (first_plain k).0);
        waits = λ h. absurd (let d = not_joined (taken_way m (way_of k y)) (first_phase k) (first_plain k).2 in omega arith);
      }

      by : (j : ℕ) (r : Bool) → eqb k j ≡ r → FairSeat w.used w.shared.queue j (cond r (Some (newly_seated m k (taken_way m (way_of k y)) t b)) (get_or w.seats j None)) (cond r (Some b) (get_or w.bodies j None))
      by j true e = subst (λ x. FairSeat w.used w.shared.queue x (Some (newly_seated m k (taken_way m (way_of k y)) t b)) (Some b)) (eqb-true k j e) own
      by j false e = i.fair j

  pub sane_seat : (w : World B) → Sane w → (k y t : ℕ) (b : B) → Sane (seat_call m w k y t b).world
  sane_seat w i k y t b = by (seat_refusal m w k y b) refl
    where
      by : (r : Option SeatRefusal) → seat_refusal m w k y b ≡ r → Sane (seat_by m w k y t b r).world
      by (Some r) e = i
      by None e = sane_seated w i k y t b (accepted w k y b e)

module _ {B : Type 0} where
  sane_paused : (w : World B) (p : Bool) → Sane w → Sane (paused_as p w)
  sane_paused w p i = record { sized = i.sized; all_seated = i.all_seated; all_bodies = i.all_bodies; used_within = i.used_within; below = i.below; above = i.above; short_queue = i.short_queue; fair = i.fair }

  pub sane_pause : (w : World B) → Sane w → Sane (pause_call w).world
  sane_pause w i = cond_both w.shared.paused _ _ (λ (d : After B). Sane d.world) (λ e. i) (λ e. sane_paused w true i)

  pub sane_resume : (w : World B) (name : ℕ) → Sane w → Sane (resume_call w name).world
  sane_resume w name i = cond_both (eqb name w.name) _ _ (λ (d : After B). Sane d.world) (λ e. cond_both w.shared.paused _ _ (λ (d : After B). Sane d.world) (λ f. sane_paused w false i) (λ f. i)) (λ e. i)

  pub sane_open : (o : Opened) → Opens o → Sane (open_world {B = B} o)
  sane_open o p = record {
    sized = record { few = p.few; some_cells = p.some_cells; few_cells = p.few_cells; some_marks = p.some_marks; few_marks = p.few_marks; long_reads = p.long_reads; long_writes = p.long_writes; few_records = p.few_records };
    all_seated = refl;
    all_bodies = refl;
    used_within = omega arith;
    below = omega (arith, p.small, total_zero raises_of 9 None refl);
    above = omega (arith, total_zero lowers_of 9 None refl);
    short_queue = omega arith;
    fair = λ k. none k _ _ (getD_none 9 k);
  }
    where
      none : (k : ℕ) (x : Option Seated) (b : Option B) → x ≡ None → FairSeat 0 [] k x b
      none k x b e = subst (λ y. FairSeat 0 [] k y b) (sym e) tt
