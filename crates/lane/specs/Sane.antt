-- What holds of a book at any time, whatever was done to its lists between two calls. It speaks of numbers alone: of no
-- list, and of no body. It keeps every step within bounds.
use Rattle.std.specs.Prelude.{◌≡◌, ℕ, ◌+◌, ◌*◌, ◌<◌, ◌≤◌, Bool, true, false, List, [], ◌∷◌, length, Some, None, Option, ◌==◌, slice_index_or}
use Rattle.lane.specs.declared.phase.Phase.{Phase}
use Rattle.lane.specs.declared.phase.Phase.TheVariants.{Reserve, MasterLook, Take, MasterRun, Put, Begin, Run, Check, Wait, Look, Prevalidate, Swap, Validate, Mark, Cell, Release, LetGo, Quit, Leave}
use Rattle.lane.specs.declared.phase.Way.{Way}
use Rattle.lane.specs.declared.phase.Way.TheVariants.{One, Two, Three}
use Rattle.lane.specs.declared.seated.Seated.{Seated}
use Rattle.lane.specs.Calls.{top_number, all_seats}
use Rattle.lane.specs.Logs.{mem, most_reads, most_writes}
use Rattle.lane.specs.declared.sizes.Sizes.{Sizes}
use Rattle.lane.specs.Worlds.{World}

-- By how much a seat may still raise the number.
abbrev pub raises : Phase → ℕ
raises Reserve = 2
raises MasterLook = 2
raises Take = 2
raises MasterRun = 1
raises (Put c v) = 1
raises Begin = 2
raises Run = 2
raises (Check c v) = 2
raises Wait = 2
raises (Look checked) = 2
raises (Prevalidate seen at) = 2
raises (Swap checked seen) = 2
raises (Validate at) = 1
raises (Mark at) = 1
raises (Cell at) = 1
raises Release = 1
raises LetGo = 1
raises Quit = 2
raises Leave = 0

-- By how much a seat has raised the number that it may still lower.
abbrev pub lowers : Phase → ℕ
lowers Reserve = 0
lowers MasterLook = 0
lowers Take = 0
lowers MasterRun = 1
lowers (Put c v) = 1
lowers Begin = 0
lowers Run = 0
lowers (Check c v) = 0
lowers Wait = 0
lowers (Look checked) = 0
lowers (Prevalidate seen at) = 0
lowers (Swap checked seen) = 0
lowers (Validate at) = 1
lowers (Mark at) = 1
lowers (Cell at) = 1
lowers Release = 1
lowers LetGo = 1
lowers Quit = 0
lowers Leave = 0

-- Whether a phase is the master's.
abbrev pub masters : Phase → Bool
masters Reserve = true
masters MasterLook = true
masters Take = true
masters MasterRun = true
masters (Put c v) = true
masters Begin = false
masters Run = false
masters (Check c v) = false
masters Wait = false
masters (Look checked) = false
masters (Prevalidate seen at) = false
masters (Swap checked seen) = false
masters (Validate at) = false
masters (Mark at) = false
masters (Cell at) = false
masters Release = false
masters LetGo = false
masters Quit = false
masters Leave = false

-- The entry that a phase works on.
abbrev pub entry_at : Phase → ℕ
entry_at Reserve = 0
entry_at MasterLook = 0
entry_at Take = 0
entry_at MasterRun = 0
entry_at (Put c v) = 0
entry_at Begin = 0
entry_at Run = 0
entry_at (Check c v) = 0
entry_at Wait = 0
entry_at (Look checked) = 0
entry_at (Prevalidate seen at) = at
entry_at (Swap checked seen) = 0
entry_at (Validate at) = at
entry_at (Mark at) = at
entry_at (Cell at) = at
entry_at Release = 0
entry_at LetGo = 0
entry_at Quit = 0
entry_at Leave = 0

-- Ways 2 and 3 join the queue.
abbrev pub joins : Way → ℕ
joins One = 0
joins Two = 1
joins Three = 1

-- Whether a phase stands between joining the queue and leaving it, in the ways that join it.
abbrev pub queued : Phase → ℕ
queued Reserve = 0
queued MasterLook = 0
queued Take = 0
queued MasterRun = 0
queued (Put c v) = 0
queued Begin = 0
queued Run = 0
queued (Check c v) = 0
queued Wait = 1
queued (Look checked) = 1
queued (Prevalidate seen at) = 1
queued (Swap checked seen) = 1
queued (Validate at) = 1
queued (Mark at) = 1
queued (Cell at) = 1
queued Release = 1
queued LetGo = 1
queued Quit = 1
queued Leave = 1

abbrev pub joined : Way → Phase → ℕ
joined y p = joins y * queued p

-- Of a seat, and of all seats.
abbrev pub of_seat : (Seated → ℕ) → Option Seated → ℕ
of_seat f None = 0
of_seat f (Some s) = f s

abbrev pub total : {X : Type 0} → (X → ℕ) → List X → ℕ
total f [] = 0
total f (x ∷ xs) = f x + total f xs

abbrev pub raises_of : Option Seated → ℕ
raises_of = of_seat (λ s. raises s.phase)

abbrev pub lowers_of : Option Seated → ℕ
lowers_of = of_seat (λ s. lowers s.phase)

abbrev pub joined_of : Option Seated → ℕ
joined_of = of_seat (λ s. joined s.way s.phase)

abbrev pub present : {B : Type 0} → Option B → Bool
present None = false
present (Some b) = true

-- Of a transaction at seat k.
pub record Fair {B : Type 0} (used : ℕ) (queue : List ℕ) (k : ℕ) (s : Seated) (b : Option B) : Type 0 where
  pub held : present b ≡ true
  pub chair : masters s.phase ≡ (k == 0)
  pub few_reads : s.reads ≤ most_reads
  pub few_writes : s.writes ≤ most_writes
  pub none_logged : k ≡ 0 → (s.reads ≡ 0) × (s.writes ≡ 0)
  pub few_made : s.made ≤ used
  pub near : entry_at s.phase ≤ most_reads + most_writes
  pub waits : 0 < joined s.way s.phase → mem k queue ≡ true

abbrev pub FairSeat : {B : Type 0} → ℕ → List ℕ → ℕ → Option Seated → Option B → Type 0
FairSeat used queue k None b = Unit {0}
FairSeat used queue k (Some s) b = Fair used queue k s b

-- Of the lengths that the book was opened with.
pub record Sized (helpers : ℕ) (z : Sizes) : Type 0 where
  pub few : helpers ≤ 8
  pub some_cells : 0 < z.cells
  pub few_cells : z.cells ≤ 4096
  pub some_marks : 0 < z.marks
  pub few_marks : z.marks ≤ 1024
  pub long_reads : most_reads * helpers ≤ z.reads
  pub long_writes : most_writes * helpers ≤ z.writes
  pub few_records : z.journal ≤ 65536

pub record Sane {B : Type 0} (w : World B) : Type 0 where
  pub sized : Sized w.helpers w.sizes
  pub all_seated : length w.seats ≡ all_seats
  pub all_bodies : length w.bodies ≡ all_seats
  pub used_within : w.used ≤ w.sizes.journal
  pub below : w.shared.core.number + total raises_of w.seats ≤ top_number + 2 * all_seats
  pub above : total lowers_of w.seats ≤ w.shared.core.number
  pub short_queue : length w.shared.queue ≤ total joined_of w.seats
  pub fair : (k : ℕ) → FairSeat w.used w.shared.queue k (slice_index_or w.seats k None) (slice_index_or w.bodies k None)
