-- What a book can be asked.
use Rattle.std.specs.Prelude.{ℕ, ◌+◌, ◌*◌, Bool, true, false, cond, List, [], ◌∷◌, Some, None, Option}
use Rattle.lane.specs.declared.phase.Phase.{Phase}
use Rattle.lane.specs.declared.phase.Phase.TheVariants.{Reserve, MasterLook, Take, MasterRun, Put, Begin, Run, Check, Wait, Look, Prevalidate, Swap, Validate, Mark, Cell, Release, LetGo, Quit, Leave}
use Rattle.lane.specs.declared.seated.Seated.{Seated}

-- A seat is under way in every phase but those that wait for a pause to end.
abbrev pub in_hand : Phase → Bool
in_hand Reserve = false
in_hand MasterLook = true
in_hand Take = true
in_hand MasterRun = true
in_hand (Put c v) = true
in_hand Begin = false
in_hand Run = true
in_hand (Check c v) = true
in_hand Wait = true
in_hand (Look checked) = true
in_hand (Prevalidate seen at) = true
in_hand (Swap checked seen) = true
in_hand (Validate at) = true
in_hand (Mark at) = true
in_hand (Cell at) = true
in_hand Release = true
in_hand LetGo = true
in_hand Quit = true
in_hand Leave = true

-- 1 for a seat that is under way, and 0 for any other, an idle one too.
abbrev pub seat_bit : Option Seated → ℕ
seat_bit None = 0
seat_bit (Some s) = cond (in_hand s.phase) 1 0

-- The seats under way as a word, with bit k for seat k.
abbrev pub seat_word : List (Option Seated) → ℕ
seat_word [] = 0
seat_word (s ∷ ss) = seat_bit s + 2 * seat_word ss

-- How many they are.
abbrev pub seat_count : List (Option Seated) → ℕ
seat_count [] = 0
seat_count (s ∷ ss) = seat_bit s + seat_count ss
