-- Behind the read log the cells of the write log follow.
use Rattle.std.proofs.Common.{◌≤◌, ◌∙◌, sym, ap, length, rules, tests}
use Rattle.lane.specs.declared.written.Written.{Written}
use Rattle.logs.proofs.Entering.{cell_behind}
use Rattle.logs.proofs.amounts.cell_at.Goals as goal

pub returns-in-None : goal.returns-in-None
returns-in-None c =
    let l : length c.args.reads.now ≤ c.args.at = (let z = c.in-None.ensures.lookup in search (rules, tests)) in
    ap (λ (x : Written). x.cell) c.written_at.ensures ∙ sym (cell_behind c.args.reads.now c.args.writes.now c.args.at l)
