-- What a step does: to what the seats share, to its body, and to its logs.
use Rattle.std.specs.Prelude.{ℕ, ◌+◌, ◌-◌, true, false, List, [], ◌∷◌, ◌++◌, Some, None, Option}
use Rattle.body.specs.declared.body.Body.{Ghosts}
use Rattle.lane.specs.declared.phase.Phase.{Phase}
use Rattle.lane.specs.declared.step.Effect.{Effect}
use Rattle.lane.specs.declared.step.Effect.TheVariants.{Unchanged, FlagSet, LaneTaken, MarkSet, CellSet, NumberRaised, NumberLowered, QueueJoined, QueueLeft}
use Rattle.lane.specs.declared.step.LogChange.{LogChange}
use Rattle.lane.specs.declared.step.LogChange.TheVariants.{Same, Emptied, Noted, Entered}
use Rattle.lane.specs.declared.step.Step.{Step}
use Rattle.lane.specs.declared.told.Told.{Told}
use Rattle.lane.specs.declared.told.Told.TheVariants.{Nothing, Restarted, Handed, Taken}
use Rattle.lane.specs.declared.written.Written.{Written}
use Rattle.lane.specs.Logs.{enter, note}
use Rattle.lane.specs.State.{Shared, Work, Seat, mark_set, cell_set, numbered, with_core, with_flag, with_queue, without}

-- What the seats share after seat k's step. Only the take clears the flag.
abbrev pub shared_after : ℕ → Effect → Shared → Shared
shared_after k Unchanged g = g
shared_after k FlagSet g = with_flag true g
shared_after k LaneTaken g = with_flag false (with_core (numbered (g.core.number + 1) g.core) g)
shared_after k (MarkSet c) g = with_core (mark_set c g.core) g
shared_after k (CellSet c v) g = with_core (cell_set c v g.core) g
shared_after k NumberRaised g = with_core (numbered (g.core.number + 1) g.core) g
shared_after k NumberLowered g = with_core (numbered (g.core.number - 1) g.core) g
shared_after k QueueJoined g = with_queue (g.queue ++ (k ∷ [])) g
shared_after k QueueLeft g = with_queue (without k g.queue) g

-- The start of an attempt.
abbrev pub start_after : Told → ℕ → ℕ
start_after Nothing n = n
start_after (Restarted s) n = s
start_after (Handed c v) n = n
start_after (Taken c v) n = n

abbrev pub reads_after : LogChange → List ℕ → List ℕ
reads_after Same R = R
reads_after Emptied R = []
reads_after (Noted c) R = note c R
reads_after (Entered c v) R = R

abbrev pub writes_after : LogChange → List Written → List Written
writes_after Same W = W
writes_after Emptied W = []
writes_after (Noted c) W = W
writes_after (Entered c v) W = enter c v W

module _ {B : Type 0} (m : Ghosts B) where
  -- A body that is told this.
  abbrev pub body_after : Told → B → B
  body_after Nothing b = b
  body_after (Restarted s) b = m.begin b
  body_after (Handed c v) b = m.told b v
  body_after (Taken c v) b = m.taken b

  abbrev pub work_after : Step → Work B → Work B
  work_after z s = record {
    body = body_after z.told s.body;
    way = s.way;
    start = start_after z.told s.start;
    reads = reads_after z.log s.reads;
    writes = writes_after z.log s.writes;
  }

  abbrev pub seat_to : Option Phase → Work B → Option (Seat B)
  seat_to None s = None
  seat_to (Some p) s = Some (record { phase = p; work = s })

  -- The seat after its step, or none where it becomes idle.
  abbrev pub seat_after : Step → Work B → Option (Seat B)
  seat_after z s = seat_to z.next (work_after z s)
