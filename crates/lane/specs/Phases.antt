-- The steps, one function a phase: where the seat goes, what the step answers, what it tells the body, what it does to the
-- seat's logs, and the one thing that it changes of what the seats share.
use Rattle.std.specs.Prelude.{ℕ, ◌+◌, Bool, cond, not, ◌&&◌, List, length, get_or, ℤ, pos, Some, None, Option, ◌==◌, nat_le, nat_lt, slice_index, slice_index_or}
use Rattle.body.specs.declared.body.Body.{Ghosts}
use Rattle.body.specs.declared.request.Request.{Request}
use Rattle.body.specs.declared.request.Request.TheVariants.{Read, Write, End}
use Rattle.lane.specs.declared.answer.Answer.{Answer}
use Rattle.lane.specs.declared.answer.Answer.TheVariants.{GoneOn, Waiting, Paused, BrokenOff, Committed, TooLong}
use Rattle.lane.specs.declared.phase.Phase.{Phase}
use Rattle.lane.specs.declared.phase.Phase.TheVariants.{Reserve, MasterLook, Take, MasterRun, Put, Begin, Run, Check, Wait, Look, Prevalidate, Swap, Validate, Mark, Cell, Release, LetGo, Quit, Leave}
use Rattle.lane.specs.declared.phase.Way.{Way}
use Rattle.lane.specs.declared.phase.Way.TheVariants.{One, Two, Three}
use Rattle.lane.specs.declared.step.Effect.{Effect}
use Rattle.lane.specs.declared.step.Effect.TheVariants.{Unchanged, FlagSet, LaneTaken, MarkSet, CellSet, NumberRaised, NumberLowered, QueueJoined, QueueLeft}
use Rattle.lane.specs.declared.step.LogChange.{LogChange}
use Rattle.lane.specs.declared.step.LogChange.TheVariants.{Same, Emptied, Noted, Entered}
use Rattle.lane.specs.declared.step.Step.{Step}
use Rattle.lane.specs.declared.told.Told.TheVariants.{Nothing, Restarted, Handed, Taken}
use Rattle.lane.specs.Logs.{has, lookup, mem, no_entry, most_reads, most_writes}
use Rattle.lane.specs.State.{Shared, Work, entries, odd, base, stale, first_is}

-- Forms of steps --------------------------------------------------------------

-- Goes to a phase with this answer, and changes this one thing.
abbrev pub answers : Answer → Effect → Phase → Step
answers a e p = record { next = Some p; answer = a; told = Nothing; log = Same; effect = e }

-- Goes on, and changes nothing that is shared.
abbrev pub goes : Phase → Step
goes p = answers GoneOn Unchanged p

-- Goes on, and changes this one thing.
abbrev pub does : Effect → Phase → Step
does e p = answers GoneOn e p

-- Stays, and changes nothing.
abbrev pub stays : Answer → Phase → Step
stays a p = answers a Unchanged p

-- The attempt is broken off, and begins anew.
abbrev pub breaks_off : Effect → Step
breaks_off e = answers BrokenOff e Begin

-- The body is restarted, in an attempt with this start; its logs are emptied.
abbrev pub restarts : ℕ → Effect → Phase → Step
restarts n e p = record { next = Some p; answer = GoneOn; told = Restarted n; log = Emptied; effect = e }

-- The body is told the amount that it asked for.
abbrev pub hands : ℕ → ℤ → LogChange → Phase → Step
hands c v l p = record { next = Some p; answer = GoneOn; told = Handed c v; log = l; effect = Unchanged }

-- The body is told that its write was taken.
abbrev pub takes_write : ℕ → ℤ → LogChange → Effect → Phase → Step
takes_write c v l e p = record { next = Some p; answer = GoneOn; told = Taken c v; log = l; effect = e }

-- The transaction commits under this number.
abbrev pub commits_as : ℕ → Effect → Option Phase → Step
commits_as n e p = record { next = p; answer = Committed n; told = Nothing; log = Same; effect = e }

-- The transaction does not fit its logs.
abbrev pub too_long : Step
too_long = record { next = None; answer = TooLong; told = Nothing; log = Same; effect = Unchanged }

-- The master ------------------------------------------------------------------

-- The flag keeps helpers from taking the lane that the master is about to take.
abbrev pub reserve_step : Bool → Step
reserve_step paused = cond paused (stays Paused Reserve) (does FlagSet MasterLook)

abbrev pub master_look_step : ℕ → Step
master_look_step number = cond (odd number) (stays Waiting MasterLook) (goes Take)

-- The start is the number before.
abbrev pub take_step : ℕ → Step
take_step number = restarts number LaneTaken MasterRun

-- The master reads cells as they stand. A write sets the mark first, so that a helper which loads the new amount finds it.
abbrev pub master_read_step : List ℤ → ℕ → Step
master_read_step cells c = hands c (slice_index_or cells c (pos 0)) Same MasterRun

abbrev pub master_write_step : ℕ → ℤ → Step
master_write_step c v = does (MarkSet c) (Put c v)

abbrev pub master_end_step : ℕ → Step
master_end_step number = commits_as number NumberRaised None

abbrev pub master_run_step : ℕ → List ℤ → Request → Step
master_run_step number cells (Read c) = master_read_step cells c
master_run_step number cells (Write c v) = master_write_step c v
master_run_step number cells End = master_end_step number

abbrev pub put_step : ℕ → ℤ → Step
put_step c v = takes_write c v Same (CellSet c v) MasterRun

-- A helper's attempt ----------------------------------------------------------

-- The start is even: what the holder of the lane has done so far is not read.
abbrev pub begin_step : Bool → ℕ → Step
begin_step paused number = cond paused (stays Paused Begin) (restarts (base number) Unchanged Run)

-- The attempt's own write is handed at once; any other cell is loaded, and its mark is checked after.
abbrev pub read_step : List ℤ → ℕ → Option ℤ → Step
read_step cells c (Some v) = hands c v Same Run
read_step cells c None = goes (Check c (slice_index_or cells c (pos 0)))

-- A loaded amount is handed only if the mark shows that no commit since the start touched the cell. The read log has `count`
-- cells; `known` is whether this is one of them.
abbrev pub check_step : Bool → Bool → ℕ → ℕ → ℤ → Step
check_step is-stale known count c v =
    cond is-stale (breaks_off Unchanged) (cond (not known && nat_le most_reads count) too_long (hands c v (Noted c) Run))

-- A write goes to the write log.
abbrev pub write_step : Bool → Bool → ℕ → ℕ → ℤ → Step
write_step is-stale known count c v =
    cond is-stale (breaks_off Unchanged)
    (cond (not known && nat_le most_writes count) too_long (takes_write c v (Entered c v) Unchanged Run))

-- A helper's commit -----------------------------------------------------------

-- Ways 2 and 3 have prevalidated their entries before they swap; way 2 does so once.
abbrev pub look_even : ℕ → Way → Option ℕ → Step
look_even number One checked = goes (Swap None number)
look_even number Two None = goes (Prevalidate number 0)
look_even number Two (Some f) = goes (Swap (Some f) number)
look_even number Three checked = goes (Prevalidate number 0)

abbrev pub look_step : ℕ → Way → Option ℕ → Step
look_step number way checked = cond (odd number) (stays Waiting (Look checked)) (look_even number way checked)

-- The first step of each way.
abbrev pub way_step : ℕ → Way → Step
way_step number One = look_step number One None
way_step number Two = does QueueJoined Wait
way_step number Three = does QueueJoined Wait

-- With nothing written the attempt commits as of its start.
abbrev pub end_step : ℕ → Way → ℕ → ℕ → Step
end_step number way start written = cond (written == 0) (commits_as start Unchanged None) (way_step number way)

abbrev pub run_step : Shared → {B : Type 0} → Work B → Request → Step
run_step g s (Read c) = read_step g.core.cells c (lookup c s.writes)
run_step g s (Write c v) = write_step (stale g s c) (has c s.writes) (length s.writes) c v
run_step g s End = end_step g.core.number s.way s.start (length s.writes)

abbrev pub wait_step : Bool → Step
wait_step is-first = cond is-first (goes (Look None)) (stays Waiting Wait)

-- One entry a step. An entry that is not the last leads to the next.
abbrev pub prevalidate_step : Bool → ℕ → ℕ → ℕ → Step
prevalidate_step is-stale count seen at =
    cond is-stale (goes Quit) (cond (nat_lt (at + 1) count) (goes (Prevalidate seen (at + 1))) (goes (Swap (Some seen) seen)))

-- Entries that were found fresh as of a lower number are to be found fresh again.
abbrev pub after_swap : Option ℕ → ℕ → Phase
after_swap None seen = Validate 0
after_swap (Some f) seen = cond (nat_lt f seen) (Validate 0) (Mark 0)

abbrev pub swap_step : ℕ → Bool → Option ℕ → ℕ → Step
swap_step number flag checked seen =
    cond (number == seen && not flag) (does NumberRaised (after_swap checked seen)) (goes (Look checked))

abbrev pub validate_step : Bool → ℕ → ℕ → Step
validate_step is-stale count at =
    cond is-stale (goes LetGo) (cond (nat_lt (at + 1) count) (goes (Validate (at + 1))) (goes (Mark 0)))

abbrev pub mark_step : ℕ → ℕ → Step
mark_step c at = does (MarkSet c) (Cell at)

abbrev pub cell_step : ℕ → ℤ → ℕ → ℕ → Step
cell_step c v count at = does (CellSet c v) (cond (nat_lt (at + 1) count) (Mark (at + 1)) Release)

-- Way 1 never joined the queue.
abbrev pub after_release : Way → Option Phase
after_release One = None
after_release Two = Some Leave
after_release Three = Some Leave

abbrev pub release_step : ℕ → Way → Step
release_step number way = commits_as number NumberRaised (after_release way)

abbrev pub let_go_step : Way → Step
let_go_step One = breaks_off NumberLowered
let_go_step Two = does NumberLowered Quit
let_go_step Three = does NumberLowered Quit

abbrev pub quit_step : Step
quit_step = breaks_off QueueLeft

abbrev pub leave_step : Step
leave_step = record { next = None; answer = GoneOn; told = Nothing; log = Same; effect = QueueLeft }

-- Any step: of seat k, in this phase.
module _ {B : Type 0} (m : Ghosts B) where
  abbrev pub step_at : Shared → ℕ → Work B → Phase → Step
  step_at g k s Reserve = reserve_step g.paused
  step_at g k s MasterLook = master_look_step g.core.number
  step_at g k s Take = take_step g.core.number
  step_at g k s MasterRun = master_run_step g.core.number g.core.cells (m.asks s.body)
  step_at g k s (Put c v) = put_step c v
  step_at g k s Begin = begin_step g.paused g.core.number
  step_at g k s Run = run_step g s (m.asks s.body)
  step_at g k s (Check c v) = check_step (stale g s c) (mem c s.reads) (length s.reads) c v
  step_at g k s Wait = wait_step (first_is k g.queue)
  step_at g k s (Look checked) = look_step g.core.number s.way checked
  step_at g k s (Prevalidate seen at) = prevalidate_step (stale g s (slice_index (entries s) at)) (length (entries s)) seen at
  step_at g k s (Swap checked seen) = swap_step g.core.number g.flag checked seen
  step_at g k s (Validate at) = validate_step (stale g s (slice_index (entries s) at)) (length (entries s)) at
  step_at g k s (Mark at) = mark_step (get_or s.writes at no_entry).cell at
  step_at g k s (Cell at) = cell_step (get_or s.writes at no_entry).cell (get_or s.writes at no_entry).amount (length s.writes) at
  step_at g k s Release = release_step g.core.number s.way
  step_at g k s LetGo = let_go_step s.way
  step_at g k s Quit = quit_step
  step_at g k s Leave = leave_step
