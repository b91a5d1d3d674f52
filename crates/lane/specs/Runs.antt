-- Runs of a book: opened, and then any of its calls in any turn, each lent the lists as the call before left them.
use Rattle.std.specs.Prelude.{◌≡◌, ℕ, [], ◌∷◌, None}
use Rattle.body.specs.declared.body.Body.{Ghosts}
use Rattle.lane.specs.Calls.{Opened, opening, open_refusal, open_world, seat_call, step_call, pause_call, resume_call}
use Rattle.lane.specs.History.{History}
use Rattle.lane.specs.Law.{Opening}
use Rattle.lane.specs.Worlds.{World}

pub data Ran {B : Type 0} (m : Ghosts B) : Opening → History B → World B → Type 0 where
  opens : (o : Opened) → open_refusal o ≡ None → Ran m (opening o) [] (open_world o)
  seats : (o : Opening) (h : History B) (w : World B) (k y t : ℕ) (b : B) → Ran m o h w → Ran m o ((seat_call m w k y t b).moment ∷ h) (seat_call m w k y t b).world
  steps : (o : Opening) (h : History B) (w : World B) (k : ℕ) → Ran m o h w → Ran m o ((step_call m w k).moment ∷ h) (step_call m w k).world
  pauses : (o : Opening) (h : History B) (w : World B) → Ran m o h w → Ran m o ((pause_call w).moment ∷ h) (pause_call w).world
  resumes : (o : Opening) (h : History B) (w : World B) (name : ℕ) → Ran m o h w → Ran m o ((resume_call w name).moment ∷ h) (resume_call w name).world
