use Rattle.std.proofs.Common.{◌<◌, length, arith}
use Rattle.queue.proofs.Leaving.{first_in}
use Rattle.queue.proofs.line.Queue.is_first.Goals as goal

pub returns-then-self-gt0 : goal.returns-then-self-gt0
returns-then-self-gt0 c =
    let l : 0 < length c.args.self.now.seats = omega arith in
    first_in c.args.seat c.args.self.now.len c.args.self.now.seats c.if-self-gt0.true l
