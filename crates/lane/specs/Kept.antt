-- What each call of a book promises of runs: a run stays a run, the law holds of it, and its journal is in order.
use Rattle.std.specs.Prelude.{[], ◌∷◌}
use Rattle.body.specs.declared.body.Body.{Ghosts}
use Rattle.lane.specs.Calls.{After, Opened, opening}
use Rattle.lane.specs.History.{History}
use Rattle.lane.specs.Journals.{Orderly}
use Rattle.lane.specs.Law.{Opening, Sound}
use Rattle.lane.specs.Runs.{Ran}
use Rattle.lane.specs.Worlds.{World}

module _ {B : Type 0} (m : Ghosts B) where
  -- A book in a run from this opening, with this history behind it.
  pub record LawfulRun (o : Opening) (h : History B) (w : World B) : Type 0 where
    pub run : Ran m o h w
    pub law : Sound m o h w.shared.core.cells
    pub order : Orderly m w

  -- A call that was made of w, adds the moment of d and leaves w'.
  abbrev pub KeepsLaw : World B → After B → World B → Type 0
  KeepsLaw w d w' = (o : Opening) (h : History B) → Ran m o h w → LawfulRun o (d.moment ∷ h) w'

  -- A book that was opened.
  abbrev pub BeginsLaw : Opened → World B → Type 0
  BeginsLaw o w = LawfulRun (opening o) [] w
