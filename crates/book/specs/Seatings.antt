-- What seat answers.
use Rattle.std.specs.Prelude.{Some, None, Ok, Err, Option, Result}
use Rattle.lane.specs.declared.refusal.SeatRefusal.{SeatRefusal}
use Rattle.book.specs.declared.refused.SeatRefused.{SeatRefused}

-- A refused body comes back.
abbrev pub seat_answer : {B : Type 0} → B → Option SeatRefusal → Result (Unit {0}) (SeatRefused B)
seat_answer b None = Ok tt
seat_answer b (Some r) = Err (record { refusal = r; body = b })
