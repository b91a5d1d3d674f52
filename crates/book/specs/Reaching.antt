-- What the bodies at the seats may name.
use Rattle.std.specs.Prelude.{ℕ, ◌≤◌, List, Some, None, Option, slice_index_or}

-- The body at a seat, if there is one, reaches no further than so many cells.
abbrev pub ReachesWithin : {B : Type 0} → (B → ℕ) → ℕ → Option B → Type 0
ReachesWithin reach cells None = Unit {0}
ReachesWithin reach cells (Some b) = reach b ≤ cells

-- So does each of these bodies.
abbrev pub AllReachWithin : {B : Type 0} → (B → ℕ) → ℕ → List (Option B) → Type 0
AllReachWithin reach cells bodies = (k : ℕ) → ReachesWithin reach cells (slice_index_or bodies k None)
