-- The calls of a book: when each is refused, what it answers, what it leaves, and the moment that it adds to the history.
use Rattle.std.specs.Prelude.{ℕ, zero, suc, ◌+◌, ◌*◌, min, Bool, true, false, cond, not, ◌&&◌, ◌||◌, List, [], ◌∷◌, length, get_or, replicate, ℤ, Some, None, Ok, Err, Option, Result, ◌==◌, nat_le, nat_lt, slice_index, slice_index_or, slice_set}
use Rattle.body.specs.declared.body.Body.{Ghosts}
use Rattle.money.specs.Amounts.{within_limit}
use Rattle.journal.specs.declared.record.Record.{Record}
use Rattle.journal.specs.declared.record.Record.TheVariants.{Change, Commit}
use Rattle.lane.specs.declared.answer.Answer.{Answer}
use Rattle.lane.specs.declared.answer.Answer.TheVariants.{GoneOn, Waiting, Paused, BrokenOff, Committed, TooLong}
use Rattle.lane.specs.declared.phase.Phase.{Phase}
use Rattle.lane.specs.declared.phase.Phase.TheVariants.{Reserve, MasterLook, Take, MasterRun, Put, Begin, Run, Check, Wait, Look, Prevalidate, Swap, Validate, Mark, Cell, Release, LetGo, Quit, Leave}
use Rattle.lane.specs.declared.phase.Way.{Way}
use Rattle.lane.specs.declared.phase.Way.TheVariants.{One, Two, Three}
use Rattle.lane.specs.declared.refusal.OpenRefusal.{OpenRefusal}
use Rattle.lane.specs.declared.refusal.OpenRefusal.TheVariants as opens
use Rattle.lane.specs.declared.refusal.SeatRefusal.{SeatRefusal}
use Rattle.lane.specs.declared.refusal.SeatRefusal.TheVariants as seats
use Rattle.lane.specs.declared.refusal.StepRefusal.{StepRefusal}
use Rattle.lane.specs.declared.refusal.StepRefusal.TheVariants as steps
use Rattle.lane.specs.declared.seated.Seated.{Seated}
use Rattle.lane.specs.declared.step.Effect.{Effect}
use Rattle.lane.specs.declared.step.Effect.TheVariants.{Unchanged, FlagSet, LaneTaken, MarkSet, CellSet, NumberRaised, NumberLowered, QueueJoined, QueueLeft}
use Rattle.lane.specs.declared.step.Step.{Step}
use Rattle.lane.specs.declared.written.Written.{Written}
use Rattle.lane.specs.Effects.{shared_after, start_after, body_after}
use Rattle.lane.specs.History.{Call, seated, stepped, other, Moment}
use Rattle.lane.specs.Law.{Opening}
use Rattle.lane.specs.Logs.{no_entry, most_reads, most_writes}
use Rattle.lane.specs.Phases.{step_at}
use Rattle.lane.specs.State.{Work, entries, odd, with_pause}
use Rattle.lane.specs.declared.sizes.Sizes.{Sizes}
use Rattle.lane.specs.Worlds.{World, reads_from, writes_from, read_log, write_log, work_of, reads_used, writes_used, reads_laid, writes_laid}

-- No transaction is seated from this number on.
abbrev pub top_number : ℕ
top_number = 2147483600

-- A book has so many seats.
abbrev pub all_seats : ℕ
all_seats = 9

-- A book, and the moment that the call adds.
pub record After (B : Type 0) : Type 0 where
  pub world : World B
  pub moment : Moment B

abbrev pub at_moment : {B : Type 0} → Call B → World B → After B
at_moment c w = record { world = w; moment = record { call = c; flag = w.shared.flag; number = w.shared.core.number } }

-- A refused call changes nothing.
abbrev pub untouched : {B : Type 0} → World B → After B
untouched w = at_moment other w

-- Open ------------------------------------------------------------------------

abbrev pub some_beyond : List ℤ → Bool
some_beyond [] = false
some_beyond (x ∷ xs) = not (within_limit x) || some_beyond xs

-- What a book is opened with.
pub record Opened : Type 0 where
  pub name : ℕ
  pub helpers : ℕ
  pub number : ℕ
  pub cells : List ℤ
  pub marks : List ℕ
  pub reads : List ℕ
  pub writes : List Written
  pub journal : List Record

-- The first condition that fails.
abbrev pub open_refusal : Opened → Option OpenRefusal
open_refusal o =
    cond (length o.cells == 0 || nat_lt 4096 (length o.cells)) (Some opens.Cells)
    (cond (length o.marks == 0 || nat_lt 1024 (length o.marks)) (Some opens.Marks)
    (cond (nat_lt 8 o.helpers || (nat_lt (length o.reads) (most_reads * o.helpers) || nat_lt (length o.writes) (most_writes * o.helpers))) (Some opens.Helpers)
    (cond (nat_lt 65536 (length o.journal)) (Some opens.Journal)
    (cond (odd o.number || nat_le top_number o.number) (Some opens.Number)
    (cond (some_beyond o.cells) (Some opens.Amount) None)))))

-- The amounts and the number that a book was opened with.
abbrev pub opening : Opened → Opening
opening o = record { cells = o.cells; number = o.number }

abbrev pub sizes_of : Opened → Sizes
sizes_of o = record { cells = length o.cells; marks = length o.marks; reads = length o.reads; writes = length o.writes; journal = length o.journal }

-- The word is the number with the flag clear; no pause stands; queue and journal are empty; marks are 0; seats are idle.
abbrev pub open_world : {B : Type 0} → Opened → World B
open_world o = record {
  name = o.name;
  helpers = o.helpers;
  sizes = sizes_of o;
  shared = record { core = record { number = o.number; cells = o.cells; marks = replicate (length o.marks) 0 }; flag = false; paused = false; queue = [] };
  seats = replicate all_seats None;
  bodies = replicate all_seats None;
  used = 0;
  reads = o.reads;
  writes = o.writes;
  journal = o.journal;
}

-- Seat ------------------------------------------------------------------------

-- The ways that a seat may be asked for: 0 at the master's, 1 to 3 at a helper's.
abbrev pub way_of : ℕ → ℕ → Option Way
way_of zero y = cond (y == 0) (Some One) None
way_of (suc k) y = cond (y == 1) (Some One) (cond (y == 2) (Some Two) (cond (y == 3) (Some Three) None))

-- A transaction keeps a record for each change and one for its commit. A helper makes no more changes than its log has.
abbrev pub needed : ℕ → ℕ → ℕ
needed zero n = n + 1
needed (suc k) n = min n most_writes + 1

-- What a transaction keeps, it keeps until it has committed: one that is only to leave the queue keeps nothing.
abbrev pub kept_in : Phase → ℕ → ℕ
kept_in Reserve n = n
kept_in MasterLook n = n
kept_in Take n = n
kept_in MasterRun n = n
kept_in (Put c v) n = n
kept_in Begin n = n
kept_in Run n = n
kept_in (Check c v) n = n
kept_in Wait n = n
kept_in (Look checked) n = n
kept_in (Prevalidate seen at) n = n
kept_in (Swap checked seen) n = n
kept_in (Validate at) n = n
kept_in (Mark at) n = n
kept_in (Cell at) n = n
kept_in Release n = n
kept_in LetGo n = n
kept_in Quit n = n
kept_in Leave n = 0

abbrev pub kept_by : Option Seated → ℕ
kept_by None = 0
kept_by (Some s) = kept_in s.phase s.keeps

-- What the seated transactions keep.
abbrev pub kept : List (Option Seated) → ℕ
kept [] = 0
kept (s ∷ ss) = kept_by s + kept ss

-- Where a seat's transaction begins.
abbrev pub first_phase : ℕ → Phase
first_phase zero = Reserve
first_phase (suc k) = Begin

abbrev pub is_idle : Option Seated → Bool
is_idle None = true
is_idle (Some s) = false

module _ {B : Type 0} (m : Ghosts B) where
  -- The refusals that follow once the way is known.
  abbrev pub way_refusal : World B → ℕ → B → Option Way → Option SeatRefusal
  way_refusal w k b None = Some seats.NoWay
  way_refusal w k b (Some y) =
      cond (nat_lt w.sizes.cells (m.reach b)) (Some seats.Reach)
      (cond (nat_le top_number w.shared.core.number) (Some seats.Number)
      (cond (nat_lt w.sizes.journal (w.used + kept w.seats + needed k (m.len b))) (Some seats.Records) None))

  abbrev pub seat_refusal : World B → ℕ → ℕ → B → Option SeatRefusal
  seat_refusal w k y b =
      cond (nat_lt w.helpers k) (Some seats.NoSeat)
      (cond (not (is_idle (slice_index_or w.seats k None))) (Some seats.NotIdle) (way_refusal w k b (way_of k y)))

  abbrev pub newly_seated : ℕ → Way → ℕ → B → Seated
  newly_seated k y t b = record { phase = first_phase k; way = y; tag = t; start = 0; reads = 0; writes = 0; made = 0; keeps = needed k (m.len b) }

  -- A way that a transaction was not refused for.
  abbrev pub taken_way : Option Way → Way
  taken_way None = One
  taken_way (Some y) = y

  abbrev pub seat_world : World B → ℕ → ℕ → ℕ → B → World B
  seat_world w k y t b = record {
    name = w.name;
    helpers = w.helpers;
    sizes = w.sizes;
    shared = w.shared;
    seats = slice_set w.seats k (Some (newly_seated k (taken_way (way_of k y)) t b));
    bodies = slice_set w.bodies k (Some b);
    used = w.used;
    reads = w.reads;
    writes = w.writes;
    journal = w.journal;
  }

  abbrev pub seat_by : World B → ℕ → ℕ → ℕ → B → Option SeatRefusal → After B
  seat_by w k y t b (Some r) = untouched w
  seat_by w k y t b None = at_moment (seated k b) (seat_world w k y t b)

  abbrev pub seat_call : World B → ℕ → ℕ → ℕ → B → After B
  seat_call w k y t b = seat_by w k y t b (seat_refusal w k y b)

-- Step ------------------------------------------------------------------------

-- The record of a commit, where the step commits.
abbrev pub commit_record : ℕ → ℕ → Seated → Answer → Option Record
commit_record kind k s GoneOn = None
commit_record kind k s Waiting = None
commit_record kind k s Paused = None
commit_record kind k s BrokenOff = None
commit_record kind k s (Committed n) = Some (Commit n k kind s.tag s.made)
commit_record kind k s TooLong = None

-- The record of a step: of the change, where it sets a cell, and otherwise of the commit.
abbrev pub record_by : Effect → ℕ → Option Record → Option Record
record_by Unchanged n r = r
record_by FlagSet n r = r
record_by LaneTaken n r = r
record_by (MarkSet c) n r = r
record_by (CellSet c v) n r = Some (Change n c v)
record_by NumberRaised n r = r
record_by NumberLowered n r = r
record_by QueueJoined n r = r
record_by QueueLeft n r = r

-- The changes that the transaction has recorded; `room` is whether the journal has room.
abbrev pub made_by : Effect → Bool → ℕ → ℕ
made_by Unchanged room n = n
made_by FlagSet room n = n
made_by LaneTaken room n = n
made_by (MarkSet c) room n = n
made_by (CellSet c v) room n = cond room (n + 1) n
made_by NumberRaised room n = n
made_by NumberLowered room n = n
made_by QueueJoined room n = n
made_by QueueLeft room n = n

-- A record goes behind those that are used. A journal that is full takes none; in a run there is always room, since records
-- are kept for each transaction.
abbrev pub used_after : Bool → Option Record → ℕ → ℕ
used_after room None used = used
used_after room (Some r) used = cond room (used + 1) used

abbrev pub journal_after : Bool → Option Record → ℕ → List Record → List Record
journal_after room None used journal = journal
journal_after room (Some r) used journal = cond room (slice_set journal used r) journal

abbrev pub seated_to : Option Phase → Seated → Option Seated
seated_to None s = None
seated_to (Some p) s = Some (record { phase = p; way = s.way; tag = s.tag; start = s.start; reads = s.reads; writes = s.writes; made = s.made; keeps = s.keeps })

-- The entry of the logs that a step works on, if it works on one.
abbrev pub entry_of : {B : Type 0} → Work B → Phase → Option ℕ
entry_of s Reserve = None
entry_of s MasterLook = None
entry_of s Take = None
entry_of s MasterRun = None
entry_of s (Put c v) = None
entry_of s Begin = None
entry_of s Run = None
entry_of s (Check c v) = None
entry_of s Wait = None
entry_of s (Look checked) = None
entry_of s (Prevalidate seen at) = Some (slice_index (entries s) at)
entry_of s (Swap checked seen) = None
entry_of s (Validate at) = Some (slice_index (entries s) at)
entry_of s (Mark at) = Some (get_or s.writes at no_entry).cell
entry_of s (Cell at) = Some (get_or s.writes at no_entry).cell
entry_of s Release = None
entry_of s LetGo = None
entry_of s Quit = None
entry_of s Leave = None

abbrev pub there : ℕ → Option ℕ → Bool
there n None = true
there n (Some c) = nat_lt c n

-- The lists are as long as at open.
abbrev pub same_sizes : {B : Type 0} → World B → Bool
same_sizes w =
    (length w.shared.core.cells == w.sizes.cells && length w.shared.core.marks == w.sizes.marks)
    && ((length w.reads == w.sizes.reads && length w.writes == w.sizes.writes) && length w.journal == w.sizes.journal)

module _ {B : Type 0} (m : Ghosts B) where
  abbrev pub has_room : World B → Bool
  has_room w = nat_lt w.used w.sizes.journal

  abbrev pub record_of : World B → ℕ → Seated → Step → Option Record
  record_of w k s z = record_by z.effect w.shared.core.number (commit_record m.KIND k s z.answer)

  -- What the book knows of the transaction after a step, but for its phase.
  abbrev pub moved : World B → ℕ → Seated → Step → Seated
  moved w k s z = record {
    phase = s.phase;
    way = s.way;
    tag = s.tag;
    start = start_after z.told s.start;
    reads = reads_used z.log (read_log w k s) s.reads;
    writes = writes_used z.log (write_log w k s) s.writes;
    made = made_by z.effect (has_room w) s.made;
    keeps = s.keeps;
  }

  abbrev pub seated_after : World B → ℕ → Seated → Step → Option Seated
  seated_after w k s z = seated_to z.next (moved w k s z)

  -- The book after seat k has taken this step.
  abbrev pub step_world : World B → ℕ → Seated → B → Step → World B
  step_world w k s b z =
      let r = record_of w k s z in
      record {
        name = w.name;
        helpers = w.helpers;
        sizes = w.sizes;
        shared = shared_after k z.effect w.shared;
        seats = slice_set w.seats k (seated_after w k s z);
        bodies = slice_set w.bodies k (Some (body_after m z.told b));
        used = used_after (has_room w) r w.used;
        reads = reads_laid z.log (read_log w k s) (reads_from k) w.reads;
        writes = writes_laid z.log (write_log w k s) (writes_from k) w.writes;
        journal = journal_after (has_room w) r w.used w.journal;
      }

  -- The step that the transaction at seat k is to take.
  abbrev pub step_now : World B → ℕ → Seated → B → Step
  step_now w k s b = step_at m w.shared k (work_of w k s b) s.phase

  abbrev pub can_step : World B → ℕ → Seated → B → Bool
  can_step w k s b = same_sizes w && there (length w.shared.core.cells) (entry_of (work_of w k s b) s.phase)

  -- What a step answers.
  abbrev pub step_reply_by : World B → ℕ → Option Seated → Option B → Result Answer StepRefusal
  step_reply_by w k None b = Err steps.Idle
  step_reply_by w k (Some s) None = Err steps.Idle
  step_reply_by w k (Some s) (Some b) = cond (can_step w k s b) (Ok (step_now w k s b).answer) (Err steps.Lists)

  abbrev pub step_reply : World B → ℕ → Result Answer StepRefusal
  step_reply w k = cond (nat_lt w.helpers k) (Err steps.NoSeat) (step_reply_by w k (slice_index_or w.seats k None) (slice_index_or w.bodies k None))

  abbrev pub step_did : World B → ℕ → Seated → B → Step → After B
  step_did w k s b z = at_moment (stepped k z.answer z.told) (step_world w k s b z)

  abbrev pub step_by : World B → ℕ → Option Seated → Option B → After B
  step_by w k None b = untouched w
  step_by w k (Some s) None = untouched w
  step_by w k (Some s) (Some b) = cond (can_step w k s b) (step_did w k s b (step_now w k s b)) (untouched w)

  abbrev pub step_call : World B → ℕ → After B
  step_call w k = cond (nat_lt w.helpers k) (untouched w) (step_by w k (slice_index_or w.seats k None) (slice_index_or w.bodies k None))

-- Pause and resume ------------------------------------------------------------

module _ {B : Type 0} where
  abbrev pub paused_as : Bool → World B → World B
  paused_as p w = record {
    name = w.name;
    helpers = w.helpers;
    sizes = w.sizes;
    shared = with_pause p w.shared;
    seats = w.seats;
    bodies = w.bodies;
    used = w.used;
    reads = w.reads;
    writes = w.writes;
    journal = w.journal;
  }

  -- A pause is refused where one stands already.
  abbrev pub pause_call : World B → After B
  pause_call w = cond w.shared.paused (untouched w) (untouched (paused_as true w))

  -- A resume is refused with another book's ticket, and where no pause stands.
  abbrev pub resume_call : World B → ℕ → After B
  resume_call w name = cond (name == w.name) (cond w.shared.paused (untouched (paused_as false w)) (untouched w)) (untouched w)
