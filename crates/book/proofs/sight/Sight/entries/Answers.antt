use Rattle.std.proofs.Common.{◌+◌, length, sym, ap, ◌∙◌, length-append}
use Rattle.lane.specs.Logs.{cells_of}
use Rattle.lane.proofs.Steps.{length_cells_of}
use Rattle.book.proofs.sight.Sight.entries.Goals as goal

pub returns : goal.returns
returns c =
    let v = c.args.self.now in
    sym (length-append v.reads.now (cells_of v.writes.now) ∙ ap (λ n. length v.reads.now + n) (length_cells_of v.writes.now))
