-- Every call keeps the law.
use Rattle.std.proofs.Common.{◌≡◌, ℕ, [], ◌∷◌, None, sym, subst}
use Rattle.body.specs.declared.body.Body.{Ghosts}
use Rattle.lane.specs.Calls.{After, Opened, opening, open_refusal, open_world, seat_call, step_call, pause_call, resume_call}
use Rattle.lane.specs.History.{History}
use Rattle.lane.specs.Kept.{LawfulRun, KeepsLaw, BeginsLaw}
use Rattle.lane.specs.Law.{Opening}
use Rattle.lane.specs.Runs.{Ran, opens, seats, steps, pauses, resumes}
use Rattle.lane.specs.Worlds.{World}
use Rattle.lane.proofs.Bodies.{Laws}
use Rattle.lane.proofs.Orderly.{orderly}
use Rattle.lane.proofs.Whole.{law_of_runs}

module _ {B : Type 0} (m : Ghosts B) (law : Laws m) where
  lawful : {o : Opening} {h : History B} {w : World B} → Ran m o h w → LawfulRun m o h w
  lawful {o} {h} {w} r = record { run = r; law = law_of_runs m law o h w r; order = orderly m law r }

  keeps : (w w' : World B) (d : After B) → w' ≡ d.world → ((o : Opening) (h : History B) → Ran m o h w → Ran m o (d.moment ∷ h) d.world) → KeepsLaw m w d w'
  keeps w w' d e f o h r = subst (λ x. LawfulRun m o (d.moment ∷ h) x) (sym e) (lawful (f o h r))

  pub open_begins : (o : Opened) (w : World B) → open_refusal o ≡ None → w ≡ open_world o → BeginsLaw m o w
  open_begins o w n e = subst (λ x. LawfulRun m (opening o) [] x) (sym e) (lawful (opens o n))

  pub seat_keeps : (w w' : World B) (k y t : ℕ) (b : B) → w' ≡ (seat_call m w k y t b).world → KeepsLaw m w (seat_call m w k y t b) w'
  seat_keeps w w' k y t b e = keeps w w' (seat_call m w k y t b) e (λ o h r. seats o h w k y t b r)

  pub step_keeps : (w w' : World B) (k : ℕ) → w' ≡ (step_call m w k).world → KeepsLaw m w (step_call m w k) w'
  step_keeps w w' k e = keeps w w' (step_call m w k) e (λ o h r. steps o h w k r)

  pub pause_keeps : (w w' : World B) → w' ≡ (pause_call w).world → KeepsLaw m w (pause_call w) w'
  pause_keeps w w' e = keeps w w' (pause_call w) e (λ o h r. pauses o h w r)

  pub resume_keeps : (w w' : World B) (name : ℕ) → w' ≡ (resume_call w name).world → KeepsLaw m w (resume_call w name) w'
  resume_keeps w w' name e = keeps w w' (resume_call w name) e (λ o h r. resumes o h w name r)
