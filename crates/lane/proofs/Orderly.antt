-- Every run of a book is orderly.
use Rattle.std.proofs.Common.{◌≡◌, ℕ, zero, suc, ◌<◌, ◌≤◌, true, false, cond, not, ◌&&◌, eqb, ltb, List, [], ◌∷◌, length, get_or, ℤ, nat_abs, Some, None, Ok, Err, Option, Result, sym, refl, ap, ◌∙◌, subst, arith}
use Rattle.std.specs.List.{AllByRecursion}
use Rattle.std.proofs.ByRecursion.{All-append}
use Rattle.std.proofs.lemmas.Bool.{eq-eqb, lt-ltb, le-ltb, leb-true, or_parts, not-false, and_from, cond_both}
use Rattle.body.specs.declared.body.Body.{Ghosts}
use Rattle.body.specs.Meaning.{Within}
use Rattle.money.specs.Amounts.{within_limit}
use Rattle.lane.specs.declared.answer.Answer.{Answer}
use Rattle.lane.specs.declared.phase.Phase.{Phase}
use Rattle.lane.specs.declared.phase.Phase.TheVariants.{Reserve, MasterLook, Take, MasterRun, Put, Begin, Run, Check, Wait, Look, Prevalidate, Swap, Validate, Mark, Cell, Release, LetGo, Quit, Leave}
use Rattle.lane.specs.declared.refusal.StepRefusal.{StepRefusal}
use Rattle.lane.specs.declared.refusal.StepRefusal.TheVariants.{Lists}
use Rattle.lane.specs.declared.seated.Seated.{Seated}
use Rattle.lane.specs.declared.written.Written.{Written}
use Rattle.lane.specs.Calls.{After, some_beyond, entry_of, there, same_sizes, record_of, can_step, step_now, step_did, step_reply_by, step_call}
use Rattle.lane.specs.History.{History}
use Rattle.lane.specs.Journals.{recorded, Orderly}
use Rattle.lane.specs.Law.{Opening}
use Rattle.lane.specs.Logs.{cells_of, no_entry}
use Rattle.lane.specs.Runs.{Ran, opens, seats, steps, pauses, resumes}
use Rattle.lane.specs.State.{Work, entries}
use Rattle.lane.specs.Worlds.{World, work_of}
use Rattle.lane.proofs.Bodies.{Laws}
use Rattle.lane.proofs.Core.{to}
use Rattle.lane.proofs.Entries.{Fit, Held, HeldSeat, Clean, clean}
use Rattle.lane.proofs.Records.{Booked, room_for, recorded_did, booked_step, booked_seat, booked_pause, booked_resume, booked_open}
use Rattle.lane.proofs.Runs.{inv}
use Rattle.lane.proofs.Sanity.{Lent, opens_well}
use Rattle.lane.proofs.Seen.{model, seat_view}
use Rattle.lane.proofs.Tallies.{added}
use Rattle.lane.proofs.Whole.{right}

-- A book is opened with amounts within the limit.
all_within : (cells : List ℤ) → some_beyond cells ≡ false → AllByRecursion Within cells
all_within [] e = tt
all_within (x ∷ cells) e =
    let a = or_parts (not (within_limit x)) (some_beyond cells) e in
    (leb-true (nat_abs x) _ (not-false (within_limit x) a.0), all_within cells a.1)

-- Entries of logs are cells of the book --------------------------------------------

read_there : (size : ℕ) (R : List ℕ) (i : ℕ) → 0 < size → AllByRecursion (λ c. c < size) R → get_or R i 0 < size
read_there size [] i l a = l
read_there size (c ∷ R) zero l a = a.0
read_there size (c ∷ R) (suc i) l a = read_there size R i l a.1

written_there : (size : ℕ) (W : List Written) (i : ℕ) → 0 < size → AllByRecursion (Fit size) W → (get_or W i no_entry).cell < size
written_there size [] i l a = l
written_there size (x ∷ W) zero l a = a.0.0
written_there size (x ∷ W) (suc i) l a = written_there size W i l a.1

cells_there : (size : ℕ) (W : List Written) → AllByRecursion (Fit size) W → AllByRecursion (λ c. c < size) (cells_of W)
cells_there size [] a = tt
cells_there size (x ∷ W) a = (a.0.0, cells_there size W a.1)

module _ {B : Type 0} (size : ℕ) (s : Work B) (l : 0 < size) (h : Held size s) where
  entry : (i : ℕ) → ltb (get_or (entries s) i 0) size ≡ true
  entry i =
      let all = All-append (λ c. c < size) s.reads (cells_of s.writes) h.reads (cells_there size s.writes h.writes) in
      lt-ltb _ size (read_there size (entries s) i l all)

  written : (i : ℕ) → ltb (get_or s.writes i no_entry).cell size ≡ true
  written i = lt-ltb _ size (written_there size s.writes i l h.writes)

  entry_there : (p : Phase) → there size (entry_of s p) ≡ true
  entry_there Reserve = refl
  entry_there MasterLook = refl
  entry_there Take = refl
  entry_there MasterRun = refl
  entry_there (Put c v) = refl
  entry_there Begin = refl
  entry_there Run = refl
  entry_there (Check c v) = refl
  entry_there Wait = refl
  entry_there (Look checked) = refl
  entry_there (Prevalidate seen i) = entry i
  entry_there (Swap checked seen) = refl
  entry_there (Validate i) = entry i
  entry_there (Mark i) = written i
  entry_there (Cell i) = written i
  entry_there Release = refl
  entry_there LetGo = refl
  entry_there Quit = refl
  entry_there Leave = refl

long_as_opened : {B : Type 0} (w : World B) → Lent w → same_sizes w ≡ true
long_as_opened w n =
    and_from (eqb (length w.shared.core.cells) w.sizes.cells && eqb (length w.shared.core.marks) w.sizes.marks) _
    (and_from (eqb (length w.shared.core.cells) w.sizes.cells) _ (eq-eqb _ _ n.cells) (eq-eqb _ _ n.marks))
    (and_from (eqb (length w.reads) w.sizes.reads && eqb (length w.writes) w.sizes.writes) _
    (and_from (eqb (length w.reads) w.sizes.reads) _ (eq-eqb _ _ n.reads) (eq-eqb _ _ n.writes))
    (eq-eqb _ _ n.journal))

module _ {B : Type 0} (m : Ghosts B) (law : Laws m) where
  opened_within : {o : Opening} {h : History B} {w : World B} → Ran m o h w → AllByRecursion Within o.cells
  opened_within (opens o e) = all_within o.cells (opens_well o e).within
  opened_within (seats o h w k y t b r) = opened_within r
  opened_within (steps o h w k r) = opened_within r
  opened_within (pauses o h w r) = opened_within r
  opened_within (resumes o h w name r) = opened_within r

  -- In a run every entry of a log is a cell, and every amount is within the limit.
  pub cleaned : {o : Opening} {h : History B} {w : World B} → Ran m o h w → Clean m o (model w)
  cleaned {o} r = clean m o law (opened_within r) (right m r).ran

  -- In a run there is room for every record, and commits are counted.
  pub booked : {o : Opening} {h : History B} {w : World B} → Ran m o h w → Booked m w
  booked (opens o e) = booked_open m o
  booked (seats o h w k y t b r) = booked_seat m w (right m r).sane (booked r) k y t b
  booked (steps o h w k r) = booked_step m law o h w (right m r) (cleaned r) (booked r) k
  booked (pauses o h w r) = booked_pause m w (booked r)
  booked (resumes o h w name r) = booked_resume m w name (booked r)

  module _ {o : Opening} {h : History B} {w : World B} (r : Ran m o h w) where
    can : (k : ℕ) (s : Seated) (b : B) → get_or w.seats k None ≡ Some s → get_or w.bodies k None ≡ Some b → can_step m w k s b ≡ true
    can k s b at has_body =
        let n = (right m r).lent in
        let long : length w.shared.core.cells ≡ length o.cells = (inv m o law (right m r).ran).shared.long in
        let seen : seat_view w k ≡ Some (to s.phase (work_of w k s b)) = rw (at, has_body) in
        let held = subst (HeldSeat (length o.cells)) seen ((cleaned r).seats k) in
        let some : 0 < length w.shared.core.cells = omega (arith, n.cells, (right m r).sane.sized.some_cells) in
        let here : Held (length w.shared.core.cells) (work_of w k s b) = subst (λ x. Held x (work_of w k s b)) (sym long) held in
        and_from (same_sizes w) _ (long_as_opened w n) (entry_there (length w.shared.core.cells) (work_of w k s b) some here s.phase)

    -- NO STEP IS REFUSED FOR ITS LISTS
    taken : (k : ℕ) (x : Option Seated) → get_or w.seats k None ≡ x → (y : Option B) → get_or w.bodies k None ≡ y
        → step_reply_by m w k x y ≡ Err Lists → ⊥
    taken k None e y f q = cc
    taken k (Some s) e None f q = cc
    taken k (Some s) e (Some b) f q =
        let a : Answer = (step_now m w k s b).answer in
        let p : ◌≡◌ {A = Result Answer StepRefusal} (Ok a) (Err Lists) = subst (λ c. cond c (Ok a) (Err Lists) ≡ Err Lists) (can k s b e f) q in
        cc

    -- A step of a seated transaction is taken, and its record stands behind those before it.
    module _ (k : ℕ) (s : Seated) (b : B) (l : k ≤ w.helpers) (at : get_or w.seats k None ≡ Some s) (has_body : get_or w.bodies k None ≡ Some b) where
      pub step_taken : step_call m w k ≡ step_did m w k s b (step_now m w k s b)
      step_taken = rw (le-ltb w.helpers k l, at, has_body, can k s b at has_body)

      pub record_added : recorded (step_call m w k).world ≡ added (recorded w) (record_of m w k s (step_now m w k s b))
      record_added = ap (λ (d : After B). recorded d.world) step_taken ∙ recorded_did m law o h w (right m r) (cleaned r) (booked r) k s b l at has_body

  -- EVERY RUN IS ORDERLY
  pub orderly : {o : Opening} {h : History B} {w : World B} → Ran m o h w → Orderly m w
  orderly {o} {h} {w} r = record {
    never_refused = λ k. cond_both (ltb w.helpers k) _ _ (λ (x : Result Answer StepRefusal). x ≡ Err Lists → ⊥)
        (λ e q. cc)
        (λ e. taken r k (get_or w.seats k None) refl (get_or w.bodies k None) refl);
    within = (cleaned r).cells;
    room = λ k s b x l at has_body e. room_for m law o h w (right m r) (cleaned r) (booked r) k s b l at has_body x e;
    counted = λ before after n seat kind tag count e. (let z = (booked r).tally.counted before after n seat kind tag count e in (z.0, z.1));
  }
