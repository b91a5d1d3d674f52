-- The transactions and the bodies at the seats, as the calls of a book are defined over them: two lists.
use Rattle.std.specs.Prelude.{List, Option, map}
use Rattle.lane.specs.declared.seated.Seated.{Seated}
use Rattle.book.specs.declared.chair.Chair.{Chair}

abbrev pub seats_of : {B : Type 0} → List (Chair B) → List (Option Seated)
seats_of chairs = map (λ c. c.seated) chairs

abbrev pub bodies_of : {B : Type 0} → List (Chair B) → List (Option B)
bodies_of chairs = map (λ c. c.body) chairs
