use Rattle.std.proofs.Common.{ap, rules}
use Rattle.lane.specs.Calls.{seat_by}
use Rattle.lane.proofs.Keeping.{seat_keeps}
use Rattle.book.specs.Views.{bare, world}
use Rattle.book.proofs.Bounds.{seat_few}
use Rattle.book.proofs.Calling.{placed, seated_lent, seated_sane}
use Rattle.book.proofs.Reaching.{seated_within}
use Rattle.book.proofs.book.Book.seat.Goals as goal

pub place-requires : goal.place-requires
place-requires g c =
    (search rules, seat_few (bare c.args.self.now.desk) c.args.self.now.sane g.B.Body c.args.seat c.args.way c.args.body c.in-Ok.ensures.refused)

pub invariant_of-self : goal.invariant_of-self
invariant_of-self g c =
    let a = c.args in
    let after = placed g.B.Body a.self.now.desk c.place.new.self a.seat a.way a.tag a.body c.in-Ok.ensures.refused (c.place.ensures a.way c.in-Ok.ensures.admitted) in
    record {
      sane = seated_sane g.B.Body a.self.now.desk c.place.new.self a.seat a.way a.tag a.body after a.self.now.sane;
      within = seated_within g.B.Body a.self.now.desk c.place.new.self a.seat a.way a.tag a.body after a.self.now.within;
    }

pub returns-in-Ok-clause-law : goal.returns-in-Ok-clause-law
returns-in-Ok-clause-law g c l =
    let a = c.args in
    let after = placed g.B.Body a.self.now.desk c.place.new.self a.seat a.way a.tag a.body c.in-Ok.ensures.refused (c.place.ensures a.way c.in-Ok.ensures.admitted) in
    seat_keeps g.B.Body g.met.B.Body.lawful (world a.self.now.desk l) _ a.seat a.way a.tag a.body (seated_lent g.B.Body a.self.now.desk c.place.new.self a.seat a.way a.tag a.body after l)

pub returns-in-Err-clause-law : goal.returns-in-Err-clause-law
returns-in-Err-clause-law g c l =
    let a = c.args in
    let w = world a.self.now.desk l in
    seat_keeps g.B.Body g.met.B.Body.lawful w w a.seat a.way a.tag a.body (ap (λ r. (seat_by g.B.Body w a.seat a.way a.tag a.body r).world) c.in-Err.ensures.refused)
