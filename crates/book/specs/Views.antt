-- A desk and the lists lent to it, as the calls of a book are defined over them.
use Rattle.std.specs.Prelude.{◌≡◌, ℕ, ◌+◌, ◌%◌, ◌^◌, ◌<◌, ◌≤◌, Bool, false, cond, List, [], length, replicate, ℤ, Some, None, Ok, Err, Option, Result, nat_lt, slice_index_or, slice_set}
use Rattle.body.specs.declared.body.Body.{Ghosts}
use Rattle.queue.specs.Queued.{queued}
use Rattle.lane.specs.declared.refusal.StepRefusal.{StepRefusal}
use Rattle.lane.specs.declared.refusal.StepRefusal.TheVariants.{NoSeat, Idle, Lists as Lists-refused}
use Rattle.lane.specs.Calls.{Opened, all_seats, sizes_of, can_step, made_by, step_now}
use Rattle.lane.specs.Effects.{start_after}
use Rattle.lane.specs.declared.seated.Seated.{Seated}
use Rattle.lane.specs.declared.sizes.Sizes.{Sizes}
use Rattle.lane.specs.declared.step.Effect.{Effect}
use Rattle.lane.specs.declared.step.Effect.TheVariants.{Unchanged, FlagSet, LaneTaken, MarkSet, CellSet, NumberRaised, NumberLowered, QueueJoined, QueueLeft}
use Rattle.lane.specs.declared.step.LogChange.{LogChange}
use Rattle.lane.specs.declared.step.LogChange.TheVariants.{Same, Emptied, Noted, Entered}
use Rattle.lane.specs.declared.step.Step.{Step}
use Rattle.lane.specs.declared.written.Written.{Written}
use Rattle.lane.specs.Logs.{cell_of, itself, place_by, most_reads, most_writes}
use Rattle.lane.specs.State.{Shared, Work}
use Rattle.lane.specs.Worlds.{World, stretch, reads_from, writes_from}
use Rattle.book.specs.Chairs.{bodies_of, seats_of}
use Rattle.book.specs.declared.common.Common.{Common}
use Rattle.book.specs.declared.desk.Desk.{Desk}
use Rattle.book.specs.declared.lists.Lists.{Lists}
use Rattle.book.specs.declared.ready.Ready.{Ready}
use Rattle.book.specs.declared.sight.Sight.{Sight}

-- What is shared.
abbrev pub shared_of : Common → List ℤ → List ℕ → Shared
shared_of c cells marks = record {
  core = record { number = c.number; cells = cells; marks = marks };
  flag = c.flag;
  paused = c.paused;
  queue = queued c.queue;
}

-- The marks and the cells after an effect.
abbrev pub marks_after : Effect → ℕ → List ℕ → List ℕ
marks_after Unchanged n marks = marks
marks_after FlagSet n marks = marks
marks_after LaneTaken n marks = marks
marks_after (MarkSet c) n marks = slice_set marks (c % length marks) n
marks_after (CellSet c v) n marks = marks
marks_after NumberRaised n marks = marks
marks_after NumberLowered n marks = marks
marks_after QueueJoined n marks = marks
marks_after QueueLeft n marks = marks

abbrev pub cells_after : Effect → List ℤ → List ℤ
cells_after Unchanged cells = cells
cells_after FlagSet cells = cells
cells_after LaneTaken cells = cells
cells_after (MarkSet c) cells = cells
cells_after (CellSet c v) cells = slice_set cells c v
cells_after NumberRaised cells = cells
cells_after NumberLowered cells = cells
cells_after QueueJoined cells = cells
cells_after QueueLeft cells = cells

-- The transaction at a seat, with these logs.
abbrev pub work_with : {B : Type 0} → B → Seated → List ℕ → List Written → Work B
work_with b s reads writes = record { body = b; way = s.way; start = s.start; reads = reads; writes = writes }

-- What a sight shows: what is shared, and the transaction with its logs.
abbrev pub shared_in : Sight → Shared
shared_in v = shared_of v.common.now v.cells.now v.marks.now

abbrev pub work_in : {B : Type 0} → B → Sight → Work B
work_in b v = work_with b v.seated v.reads.now v.writes.now

abbrev pub if_there : {A B : Type 0} → (A → B) → Option A → Option B
if_there f None = None
if_there f (Some x) = Some (f x)

-- A change of a log lies within the seat's stretch of the long list.
abbrev pub ReadsFit : LogChange → ℕ → Seated → List ℕ → Type 0
ReadsFit Same k s reads = Unit {0}
ReadsFit Emptied k s reads = Unit {0}
ReadsFit (Noted c) k s reads =
    (0 < k) × (k ≤ 8) × (reads_from k + most_reads ≤ length reads) × (s.reads ≤ most_reads)
    × (place_by itself c (stretch reads (reads_from k) s.reads) < most_reads)
ReadsFit (Entered c v) k s reads = Unit {0}

abbrev pub WritesFit : LogChange → ℕ → Seated → List Written → Type 0
WritesFit Same k s writes = Unit {0}
WritesFit Emptied k s writes = Unit {0}
WritesFit (Noted c) k s writes = Unit {0}
WritesFit (Entered c v) k s writes =
    (0 < k) × (k ≤ 8) × (writes_from k + most_writes ≤ length writes) × (s.writes ≤ most_writes)
    × (place_by cell_of c (stretch writes (writes_from k) s.writes) < most_writes)

-- A book with these lists.
abbrev pub world : {B : Type 0} → Desk B → Lists → World B
world d l = record {
  name = d.name;
  helpers = d.helpers;
  sizes = d.sizes;
  shared = shared_of d.common l.cells.now l.marks.now;
  seats = seats_of d.chairs;
  bodies = bodies_of d.chairs;
  used = d.used;
  reads = l.reads.now;
  writes = l.writes.now;
  journal = l.journal.now;
}

-- A book without its lists.
abbrev pub bare : {B : Type 0} → Desk B → World B
bare d = record {
  name = d.name;
  helpers = d.helpers;
  sizes = d.sizes;
  shared = shared_of d.common [] [];
  seats = seats_of d.chairs;
  bodies = bodies_of d.chairs;
  used = d.used;
  reads = [];
  writes = [];
  journal = [];
}

-- How long the lists are.
abbrev pub sizes_now : Lists → Sizes
sizes_now l = record { cells = length l.cells.now; marks = length l.marks.now; reads = length l.reads.now; writes = length l.writes.now; journal = length l.journal.now }

-- What a book is opened with.
abbrev pub opened_with : ℕ → ℕ → ℕ → Lists → Opened
opened_with name helpers number l = record {
  name = name;
  helpers = helpers;
  number = number;
  cells = l.cells.now;
  marks = l.marks.now;
  reads = l.reads.now;
  writes = l.writes.now;
  journal = l.journal.now;
}

-- A book just opened, without its lists.
abbrev pub bare_open : {B : Type 0} → Opened → World B
bare_open o = record {
  name = o.name;
  helpers = o.helpers;
  sizes = sizes_of o;
  shared = record { core = record { number = o.number; cells = []; marks = [] }; flag = false; paused = false; queue = [] };
  seats = replicate all_seats None;
  bodies = replicate all_seats None;
  used = 0;
  reads = [];
  writes = [];
  journal = [];
}

-- What a seat that may step is to do, or why it may not.
module _ {B : Type 0} (m : Ghosts B) where
  abbrev pub ready_by : World B → ℕ → Option Seated → Option B → Result Ready StepRefusal
  ready_by w k None b = Err Idle
  ready_by w k (Some s) None = Err Idle
  ready_by w k (Some s) (Some b) = cond (can_step m w k s b) (Ok (record { seated = s; step = step_now m w k s b; kind = m.KIND })) (Err Lists-refused)

  abbrev pub ready_of : World B → ℕ → Result Ready StepRefusal
  ready_of w k = cond (nat_lt w.helpers k) (Err NoSeat) (ready_by w k (slice_index_or w.seats k None) (slice_index_or w.bodies k None))

-- What the book knows of a transaction after a step, but for its phase.
abbrev pub moved_with : Seated → Step → ℕ → ℕ → Bool → Seated
moved_with s z reads writes room = record {
  phase = s.phase;
  way = s.way;
  tag = s.tag;
  start = start_after z.told s.start;
  reads = reads;
  writes = writes;
  made = made_by z.effect room s.made;
  keeps = s.keeps;
}

-- What keeps a step within bounds.
pub record CanAct {B : Type 0} (m : Ghosts B) (w : World B) (k : ℕ) (r : Ready) : Type 0 where
  pub kind_is : r.kind ≡ m.KIND
  pub seat : k ≤ 8
  pub journal_is : length w.journal ≡ w.sizes.journal
  pub some_marks : 0 < length w.shared.core.marks
  pub small : w.shared.core.number + 1 < 2 ^ 32
  pub few_made : r.seated.made + 1 < 2 ^ 32
  pub lowers : r.step.effect ≡ NumberLowered → 0 < w.shared.core.number
  pub joins : r.step.effect ≡ QueueJoined → length w.shared.queue < 8
  pub reads : ReadsFit r.step.log k r.seated w.reads
  pub writes : WritesFit r.step.log k r.seated w.writes
