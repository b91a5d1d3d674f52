-- How a book stands, when it is asked.
use Rattle.std.specs.Prelude.{◌==◌}
use Rattle.body.specs.declared.body.Body.{Ghosts}
use Rattle.book.specs.declared.book.Book.{Book}
use Rattle.book.specs.declared.status.Status.{Status}
use Rattle.book.specs.Chairs.{seats_of}
use Rattle.book.specs.Questions.{seat_count, seat_word}

abbrev pub status_of : {B : Type 0} {m : Ghosts B} → Book B m → Status
status_of b = record {
  number = b.desk.common.number;
  flag = b.desk.common.flag;
  paused = b.desk.common.paused;
  used = b.desk.used;
  word = seat_word (seats_of b.desk.chairs);
  count = seat_count (seats_of b.desk.chairs);
  quiet = (seat_count (seats_of b.desk.chairs) == 0);
}
