-- The numbers of answers and refusals.
use Rattle.std.specs.Prelude.{ℕ}
use Rattle.lane.specs.declared.answer.Answer.{Answer}
use Rattle.lane.specs.declared.answer.Answer.TheVariants.{GoneOn, Waiting, Paused, BrokenOff, Committed, TooLong}
use Rattle.lane.specs.declared.refusal.OpenRefusal.{OpenRefusal}
use Rattle.lane.specs.declared.refusal.OpenRefusal.TheVariants as opens
use Rattle.lane.specs.declared.refusal.PauseRefusal.{PauseRefusal}
use Rattle.lane.specs.declared.refusal.SeatRefusal.{SeatRefusal}
use Rattle.lane.specs.declared.refusal.SeatRefusal.TheVariants as seats
use Rattle.lane.specs.declared.refusal.StepRefusal.{StepRefusal}
use Rattle.lane.specs.declared.refusal.StepRefusal.TheVariants as steps

abbrev pub answer_number : Answer → ℕ
answer_number GoneOn = 0
answer_number Waiting = 1
answer_number Paused = 2
answer_number BrokenOff = 3
answer_number (Committed n) = 4
answer_number TooLong = 5

abbrev pub open_refusal_number : OpenRefusal → ℕ
open_refusal_number opens.Cells = 1
open_refusal_number opens.Marks = 2
open_refusal_number opens.Helpers = 3
open_refusal_number opens.Journal = 4
open_refusal_number opens.Number = 5
open_refusal_number opens.Amount = 6

abbrev pub seat_refusal_number : SeatRefusal → ℕ
seat_refusal_number seats.NoSeat = 10
seat_refusal_number seats.NotIdle = 11
seat_refusal_number seats.NoWay = 12
seat_refusal_number seats.Reach = 13
seat_refusal_number seats.Number = 14
seat_refusal_number seats.Records = 15

abbrev pub step_refusal_number : StepRefusal → ℕ
step_refusal_number steps.NoSeat = 20
step_refusal_number steps.Idle = 21
step_refusal_number steps.Lists = 22

abbrev pub pause_refusal_number : PauseRefusal → ℕ
pause_refusal_number r = 30
