-- A log that lies at the front of a lent stretch: where it has a cell, and what the stretch holds after an entry.
use Rattle.std.specs.Prelude.{ℕ, cond, List, Some, None, Option, slice_set}
use Rattle.lane.specs.Logs.{holds, place_by}

-- The place of a cell's entry, if the log has one.
abbrev pub found : {E : Type 0} → (E → ℕ) → ℕ → List E → Option ℕ
found cell c l = cond (holds cell c l) (Some (place_by cell c l)) None

-- A stretch after an entry of the log at its front: in the place of its cell's entry, or behind the last.
abbrev pub laid : {E : Type 0} → (E → ℕ) → E → List E → List E → List E
laid cell x log stretch = slice_set stretch (place_by cell (cell x) log) x
