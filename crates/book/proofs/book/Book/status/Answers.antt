use Rattle.std.proofs.Common.{eqb, ap, ◌∙◌}
use lib.Count.{ones}
use Rattle.book.specs.declared.status.Status.{Status}
use Rattle.book.specs.Chairs.{seats_of}
use Rattle.book.specs.Questions.{seat_word}
use Rattle.book.proofs.Counting.{ones_count}
use Rattle.book.proofs.book.Book.status.Goals as goal

pub returns : goal.returns
returns g c =
    let d = c.args.self.now.desk in
    let count = ap ones c.seat_word-word.ensures ∙ ones_count (seats_of d.chairs) in
    ap {B = Status} (λ n. record { number = d.common.number; flag = d.common.flag; paused = d.common.paused; used = d.used; word = n; count = ones c.seat_word-word.result; quiet = eqb (ones c.seat_word-word.result) 0 }) c.seat_word-word.ensures
    ∙ ap {B = Status} (λ n. record { number = d.common.number; flag = d.common.flag; paused = d.common.paused; used = d.used; word = seat_word (seats_of d.chairs); count = n; quiet = eqb n 0 }) count
