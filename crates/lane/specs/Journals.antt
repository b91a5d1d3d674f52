-- What holds in a run beside the law: no step is refused for its lists, every amount stays within the limit, the journal has
-- room for every record, and a commit's count is right.
use Rattle.std.specs.Prelude.{◌≡◌, ℕ, ◌+◌, ◌≤◌, true, cond, List, [], ◌∷◌, ◌++◌, take, Some, None, Err, ◌==◌, ◌≢◌, slice_index_or}
use Rattle.std.specs.List.{AllByRecursion}
use Rattle.body.specs.declared.body.Body.{Ghosts}
use Rattle.body.specs.Meaning.{Within}
use Rattle.journal.specs.declared.record.Record.{Record}
use Rattle.journal.specs.declared.record.Record.TheVariants.{Change, Commit}
use Rattle.lane.specs.declared.refusal.StepRefusal.TheVariants.{Lists}
use Rattle.lane.specs.declared.seated.Seated.{Seated}
use Rattle.lane.specs.Calls.{has_room, record_of, step_now, step_reply}
use Rattle.lane.specs.Worlds.{World}

-- The used part of the journal.
abbrev pub recorded : {B : Type 0} → World B → List Record
recorded w = take w.used w.journal

-- 1 for a change with this number, and 0 for any other record.
abbrev pub one_change : ℕ → Record → ℕ
one_change n (Change number cell amount) = cond (number == n) 1 0
one_change n (Commit number seat kind tag count) = 0

-- How many of the records are changes with this number.
abbrev pub changes : ℕ → List Record → ℕ
changes n [] = 0
changes n (r ∷ rs) = one_change n r + changes n rs

module _ {B : Type 0} (m : Ghosts B) where
  pub record Orderly (w : World B) : Type 0 where
    -- No step is refused for a list of another length, or for a log with an entry of no cell of the book.
    pub never_refused : (k : ℕ) → step_reply m w k ≢ Err Lists
    -- Every amount in a cell is within the limit.
    pub within : AllByRecursion Within w.shared.core.cells
    -- A step that makes a record finds room for it in the journal: every change and every commit is recorded.
    pub room : (k : ℕ) (s : Seated) (b : B) (r : Record) → k ≤ w.helpers → slice_index_or w.seats k None ≡ Some s → slice_index_or w.bodies k None ≡ Some b
        → record_of m w k s (step_now m w k s b) ≡ Some r → has_room m w ≡ true
    -- A commit's count is the number of changes with its number, and they all stand before it.
    pub counted : (before after : List Record) (number seat kind tag count : ℕ)
        → recorded w ≡ before ++ (Commit number seat kind tag count ∷ after)
        → (changes number before ≡ count) × (changes number after ≡ 0)
