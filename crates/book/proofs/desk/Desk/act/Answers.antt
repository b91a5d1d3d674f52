use Rattle.std.proofs.Common.{◌≡◌, Some, sym, ◌∙◌, rules, arith}
use Rattle.book.proofs.Chairing.{bodies_set, body_in, seats_set}
use Rattle.book.proofs.desk.Desk.act.Goals as goal

pub returns : goal.returns
returns g c b e =
    let h : c.index-self-at.result.body ≡ Some b = sym (body_in c.args.self.now.chairs c.args.seat c.index-self-at.result (omega arith) c.index-self-at.is) ∙ e in
    rw (seats_set, bodies_set) (search rules)
