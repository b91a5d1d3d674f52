use Rattle.std.proofs.Common.{◌≡◌, length, arith}
use Rattle.queue.proofs.Leaving.{last_in}
use Rattle.queue.proofs.line.Queue.join.Goals as goal

pub returns-then-self-lt-ROOM : goal.returns-then-self-lt-ROOM
returns-then-self-lt-ROOM c =
    let l : length c.args.self.now.seats ≡ 8 = omega arith in
    last_in c.args.seat c.args.self.now.len c.args.self.now.seats c.if-self-lt-ROOM.true l
