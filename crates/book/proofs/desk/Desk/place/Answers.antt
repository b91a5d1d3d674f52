use Rattle.std.proofs.Common.{rules}
use Rattle.book.proofs.Chairing.{bodies_set, seats_set}
use Rattle.book.proofs.desk.Desk.place.Goals as goal

pub returns : goal.returns
returns g c y e = rw (seats_set, bodies_set) (search rules)
