-- Logs of a helper's attempt: the cells that it read, and the amounts that it is to write. No log has a cell twice.
use Rattle.std.specs.Prelude.{ℕ, suc, ◌+◌, Bool, false, cond, ◌||◌, List, [], ◌∷◌, ◌++◌, ℤ, pos, Some, None, Option, ◌==◌, slice_set}
use Rattle.lane.specs.declared.written.Written.{Written}

-- Both logs are lists of entries that tell their cell. Whether a log has a cell, and where, or behind its end.
abbrev pub holds : {E : Type 0} → (E → ℕ) → ℕ → List E → Bool
holds cell c [] = false
holds cell c (x ∷ l) = cell x == c || holds cell c l

abbrev pub place_by : {E : Type 0} → (E → ℕ) → ℕ → List E → ℕ
place_by cell c [] = 0
place_by cell c (x ∷ l) = cond (cell x == c) 0 (suc (place_by cell c l))

-- A long list after an entry x of the log L, which lies in it from p on: in the place of its cell's entry, or behind the last.
abbrev pub laid : {E : Type 0} → (E → ℕ) → E → List E → ℕ → List E → List E
laid cell x L p l = slice_set l (p + place_by cell (cell x) L) x

-- How many entries a log of n has then.
abbrev pub used_with : {E : Type 0} → (E → ℕ) → E → List E → ℕ → ℕ
used_with cell x L n = cond (holds cell (cell x) L) n (n + 1)

-- An entry of a write log tells its cell beside its amount; one of a read log is its cell.
abbrev pub cell_of : Written → ℕ
cell_of x = x.cell

abbrev pub itself : ℕ → ℕ
itself c = c

abbrev pub has : ℕ → List Written → Bool
has c W = holds cell_of c W

abbrev pub mem : ℕ → List ℕ → Bool
mem c R = holds itself c R

abbrev pub place : ℕ → List Written → ℕ
place c W = place_by cell_of c W

-- The amount that a write log has for a cell, or y where it has none.
abbrev pub logged : ℕ → ℤ → List Written → ℤ
logged c y [] = y
logged c y (x ∷ W) = cond (x.cell == c) x.amount (logged c y W)

-- The amount that a write log has for a cell, if it has one.
abbrev pub lookup : ℕ → List Written → Option ℤ
lookup c W = cond (has c W) (Some (logged c (pos 0) W)) None

-- A cell's entry gets a new amount in its old place, or a new entry comes last.
abbrev pub enter : ℕ → ℤ → List Written → List Written
enter c v [] = record { cell = c; amount = v } ∷ []
enter c v (x ∷ W) = cond (x.cell == c) (record { cell = c; amount = v } ∷ W) (x ∷ enter c v W)

-- A cell that is new to a read log comes last.
abbrev pub note : ℕ → List ℕ → List ℕ
note c R = cond (mem c R) R (R ++ (c ∷ []))

abbrev pub cells_of : List Written → List ℕ
cells_of [] = []
cells_of (x ∷ W) = x.cell ∷ cells_of W

abbrev pub no_entry : Written
no_entry = record { cell = 0; amount = pos 0 }

-- The most cells of a read log and of a write log.
abbrev pub most_reads : ℕ
most_reads = 64

abbrev pub most_writes : ℕ
most_writes = 32
