-- What the seats of a book share, and what a seat has of its own.
use Rattle.std.specs.Prelude.{ℕ, ◌-◌, ◌%◌, Bool, false, cond, List, [], ◌∷◌, ◌++◌, length, ℤ, ◌==◌, nat_lt, slice_index, slice_set}
use Rattle.lane.specs.declared.phase.Phase.{Phase}
use Rattle.lane.specs.declared.phase.Way.{Way}
use Rattle.lane.specs.declared.written.Written.{Written}
use Rattle.lane.specs.Logs.{cells_of}

-- The number of the counter word, the cells and the marks. The lane is held while the number is odd.
pub record Core : Type 0 where
  pub number : ℕ
  pub cells : List ℤ
  pub marks : List ℕ

-- And the flag of the counter word, whether a pause stands, and the helpers that joined, oldest first.
pub record Shared : Type 0 where
  pub core : Core
  pub flag : Bool
  pub paused : Bool
  pub queue : List ℕ

-- A seated transaction, but for its phase: its body, its way, the start of its attempt, and its logs.
pub record Work (B : Type 0) : Type 0 where
  pub body : B
  pub way : Way
  pub start : ℕ
  pub reads : List ℕ
  pub writes : List Written

pub record Seat (B : Type 0) : Type 0 where
  pub phase : Phase
  pub work : Work B

-- The cells of both logs, in the order in which they are validated.
abbrev pub entries : {B : Type 0} → Work B → List ℕ
entries s = s.reads ++ cells_of s.writes

abbrev pub odd : ℕ → Bool
odd n = n % 2 == 1

-- The number without its lowest bit.
abbrev pub base : ℕ → ℕ
base n = n - n % 2

-- Cells share marks: a cell has the mark at its number modulo the number of marks.
abbrev pub mark_in : List ℕ → ℕ → ℕ
mark_in marks c = slice_index marks (c % length marks)

abbrev pub mark_of : Core → ℕ → ℕ
mark_of g c = mark_in g.marks c

-- The mark of a cell is stale for an attempt if it is greater than the attempt's start.
abbrev pub stale_in : List ℕ → ℕ → ℕ → Bool
stale_in marks start c = nat_lt start (mark_in marks c)

abbrev pub stale : {B : Type 0} → Shared → Work B → ℕ → Bool
stale g s c = stale_in g.core.marks s.start c

abbrev pub mark_set : ℕ → Core → Core
mark_set c g = record { number = g.number; cells = g.cells; marks = slice_set g.marks (c % length g.marks) g.number }

abbrev pub cell_set : ℕ → ℤ → Core → Core
cell_set c v g = record { number = g.number; cells = slice_set g.cells c v; marks = g.marks }

abbrev pub numbered : ℕ → Core → Core
numbered n g = record { number = n; cells = g.cells; marks = g.marks }

abbrev pub with_core : Core → Shared → Shared
with_core x g = record { core = x; flag = g.flag; paused = g.paused; queue = g.queue }

abbrev pub with_flag : Bool → Shared → Shared
with_flag f g = record { core = g.core; flag = f; paused = g.paused; queue = g.queue }

abbrev pub with_pause : Bool → Shared → Shared
with_pause p g = record { core = g.core; flag = g.flag; paused = p; queue = g.queue }

abbrev pub with_queue : List ℕ → Shared → Shared
with_queue q g = record { core = g.core; flag = g.flag; paused = g.paused; queue = q }

abbrev pub first_is : ℕ → List ℕ → Bool
first_is k [] = false
first_is k (x ∷ q) = x == k

abbrev pub without : ℕ → List ℕ → List ℕ
without k [] = []
without k (x ∷ q) = cond (x == k) (without k q) (x ∷ without k q)
