use Rattle.std.proofs.Common.{◌≡◌, ◌≤◌, length, take}
use Rattle.lane.specs.State.{without}
use Rattle.queue.proofs.line.Queue.leave.Given as goal

-- Those before i are kept but for the seat.
abbrev pub invariant-loop-i : goal.invariant-loop-i
invariant-loop-i l = (take l.kept l.seats ≡ without l.seat (take l.i l.self.seats)) × (l.kept ≤ l.i) × (length l.seats ≡ 8)
