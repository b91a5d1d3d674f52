-- The law of runs holds of every run of a book.
use Rattle.std.proofs.Common.{◌≡◌, ℕ, ◌%◌, Bool, true, false, eqb, ltb, List, [], length, get_or, replicate, Some, None, Option, sym, refl, ◌∙◌, subst, arith, length-set}
use mathlib.Core.Path.{fun_ext}
use lib.ListN.{length-replicate}
use Rattle.std.proofs.lemmas.Bool.{eqb-false, cond_both}
use Rattle.body.specs.declared.body.Body.{Ghosts}
use Rattle.journal.specs.declared.record.Record.{Record}
use Rattle.lane.specs.declared.refusal.SeatRefusal.{SeatRefusal}
use Rattle.lane.specs.declared.seated.Seated.{Seated}
use Rattle.lane.specs.declared.step.Effect.{Effect}
use Rattle.lane.specs.declared.step.Effect.TheVariants.{Unchanged, FlagSet, LaneTaken, MarkSet, CellSet, NumberRaised, NumberLowered, QueueJoined, QueueLeft}
use Rattle.lane.specs.declared.step.LogChange.{LogChange}
use Rattle.lane.specs.declared.step.LogChange.TheVariants.{Same, Emptied, Noted, Entered}
use Rattle.lane.specs.declared.step.Step.{Step}
use Rattle.lane.specs.declared.written.Written.{Written}
use Rattle.lane.specs.Calls.{After, opening, open_world, seat_refusal, seat_by, seat_call, record_of, journal_after, step_world, step_now, can_step, step_by, step_call, pause_call, resume_call}
use Rattle.lane.specs.Effects.{shared_after}
use Rattle.lane.specs.History.{History}
use Rattle.lane.specs.Law.{Opening, Sound}
use Rattle.lane.specs.Runs.{Ran, opens, seats, steps, pauses, resumes}
use Rattle.lane.specs.Sane.{Sane}
use Rattle.lane.specs.State.{Shared}
use Rattle.lane.specs.Worlds.{World, reads_laid, writes_laid}
use Rattle.lane.proofs.Bodies.{Laws}
use Rattle.lane.proofs.Core as core
use Rattle.lane.proofs.Holds.{sound}
use Rattle.lane.proofs.Sanity.{getD_none, Lent, sane_step, sane_seat, sane_pause, sane_resume, opens_well, sane_open}
use Rattle.lane.proofs.Seen.{model, view, kept_step, kept_seat, kept_pause, kept_resume}

-- Calls keep the lengths of the lists ------------------------------------------

laid_reads : (c : LogChange) (R : List ℕ) (p : ℕ) (l : List ℕ) → length (reads_laid c R p l) ≡ length l
laid_reads Same R p l = refl
laid_reads Emptied R p l = refl
laid_reads (Noted c) R p l = length-set l _ c
laid_reads (Entered c v) R p l = refl

laid_writes : (c : LogChange) (W : List Written) (p : ℕ) (l : List Written) → length (writes_laid c W p l) ≡ length l
laid_writes Same W p l = refl
laid_writes Emptied W p l = refl
laid_writes (Noted c) W p l = refl
laid_writes (Entered c v) W p l = length-set l _ _

journal_long : (room : Bool) (r : Option Record) (n : ℕ) (l : List Record) → length (journal_after room r n l) ≡ length l
journal_long room None n l = refl
journal_long true (Some r) n l = length-set l n r
journal_long false (Some r) n l = refl

cells_long : (k : ℕ) (e : Effect) (g : Shared) → length (shared_after k e g).core.cells ≡ length g.core.cells
cells_long k Unchanged g = refl
cells_long k FlagSet g = refl
cells_long k LaneTaken g = refl
cells_long k (MarkSet c) g = refl
cells_long k (CellSet c v) g = length-set _ c v
cells_long k NumberRaised g = refl
cells_long k NumberLowered g = refl
cells_long k QueueJoined g = refl
cells_long k QueueLeft g = refl

marks_long : (k : ℕ) (e : Effect) (g : Shared) → length (shared_after k e g).core.marks ≡ length g.core.marks
marks_long k Unchanged g = refl
marks_long k FlagSet g = refl
marks_long k LaneTaken g = refl
marks_long k (MarkSet c) g = length-set _ _ _
marks_long k (CellSet c v) g = refl
marks_long k NumberRaised g = refl
marks_long k NumberLowered g = refl
marks_long k QueueJoined g = refl
marks_long k QueueLeft g = refl

module _ {B : Type 0} (m : Ghosts B) where
  module _ (w : World B) (n : Lent w) where
    lent_did : (k : ℕ) (s : Seated) (b : B) (z : Step) → Lent (step_world m w k s b z)
    lent_did k s b z = record {
      cells = cells_long k z.effect w.shared ∙ n.cells;
      marks = marks_long k z.effect w.shared ∙ n.marks;
      reads = laid_reads z.log _ _ w.reads ∙ n.reads;
      writes = laid_writes z.log _ _ w.writes ∙ n.writes;
      journal = journal_long _ (record_of m w k s z) _ w.journal ∙ n.journal;
    }

    lent_step : (k : ℕ) → Lent (step_call m w k).world
    lent_step k = cond_both (ltb w.helpers k) _ _ (λ (d : After B). Lent d.world) (λ e. n) (λ e. by (get_or w.seats k None) (get_or w.bodies k None))
      where
        by : (x : Option Seated) (y : Option B) → Lent (step_by m w k x y).world
        by None y = n
        by (Some s) None = n
        by (Some s) (Some b) = cond_both (can_step m w k s b) _ _ (λ (d : After B). Lent d.world) (λ c. lent_did k s b (step_now m w k s b)) (λ c. n)

    lent_seat : (k y t : ℕ) (b : B) → Lent (seat_call m w k y t b).world
    lent_seat k y t b = by (seat_refusal m w k y b)
      where
        by : (r : Option SeatRefusal) → Lent (seat_by m w k y t b r).world
        by (Some r) = n
        by None = record { cells = n.cells; marks = n.marks; reads = n.reads; writes = n.writes; journal = n.journal }

  lent_pause : (w : World B) → Lent w → Lent (pause_call w).world
  lent_pause w n = cond_both w.shared.paused _ _ (λ (d : After B). Lent d.world) (λ e. n) (λ e. record { cells = n.cells; marks = n.marks; reads = n.reads; writes = n.writes; journal = n.journal })

  lent_resume : (w : World B) (name : ℕ) → Lent w → Lent (resume_call w name).world
  lent_resume w name n = cond_both (eqb name w.name) _ _ (λ (d : After B). Lent d.world) (λ e. cond_both w.shared.paused _ _ (λ (d : After B). Lent d.world) (λ f. record { cells = n.cells; marks = n.marks; reads = n.reads; writes = n.writes; journal = n.journal }) (λ f. n)) (λ e. n)

  -- A run ------------------------------------------------------------------------

  even : (n : ℕ) → eqb (n % 2) 1 ≡ false → n % 2 ≡ 0
  even n e = let z = eqb-false (n % 2) 1 e in omega arith

  -- In a run a book is sane, its lists are as long as at open, and it does as the law's machine does.
  pub record Right (o : Opening) (h : History B) (w : World B) : Type 0 where
    pub sane : Sane w
    pub lent : Lent w
    pub ran : core.Ran m o h (model w)

  pub right : {o : Opening} {h : History B} {w : World B} → Ran m o h w → Right o h w
  right (opens o e) =
      let p = opens_well o e in
      record {
        sane = sane_open o p;
        lent = record { cells = refl; marks = length-replicate _ _; reads = refl; writes = refl; journal = refl };
        ran = subst (λ f. core.Ran m (opening o) [] (record { shared = (open_world {B = B} o).shared; seats = f })) (sym (fun_ext (λ j. none (open_world {B = B} o) j))) (core.opens (length o.marks) p.some_marks (even o.number p.even));
      }
    where
      none : (w : World B) (j : ℕ) → view w j (get_or (replicate 9 None) j None) (get_or (replicate 9 None) j None) ≡ None
      none w j = rw (getD_none {X = Seated} 9 j)
  right (seats o h w k y t b r) = let i = right r in record { sane = sane_seat m w i.sane k y t b; lent = lent_seat w i.lent k y t b; ran = kept_seat m o h w i.sane i.lent i.ran k y t b }
  right (steps o h w k r) = let i = right r in record { sane = sane_step m w i.sane k; lent = lent_step w i.lent k; ran = kept_step m o h w i.sane i.lent i.ran k }
  right (pauses o h w r) = let i = right r in record { sane = sane_pause w i.sane; lent = lent_pause w i.lent; ran = kept_pause m o h w i.sane i.lent i.ran }
  right (resumes o h w name r) = let i = right r in record { sane = sane_resume w name i.sane; lent = lent_resume w name i.lent; ran = kept_resume m o h w i.sane i.lent i.ran name }

  -- THE LAW OF RUNS
  pub law_of_runs : Laws m → (o : Opening) (h : History B) (w : World B) → Ran m o h w → Sound m o h w.shared.core.cells
  law_of_runs law o h w r = sound m o law (right r).ran
