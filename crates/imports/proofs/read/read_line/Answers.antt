use Rattle.std.proofs.lemmas.Result.{err_from_is_err_and}
use Rattle.money.specs.Amounts.{places}
use Rattle.imports.specs.Lines.{row_faults}
use Rattle.imports.proofs.FirstRow.{said_fault}
use Rattle.imports.proofs.read.read_line.Goals as goal

pub returns-in_err-posting : goal.returns-in_err-posting
returns-in_err-posting c =
    let p = err_from_is_err_and c.from_residual-in_err-posting.result c.from_residual-in_err-posting.ensures.1 in
    let row = c.in_ok-row.ensures in
    rw (p.1, p.2)
    (said_fault (row_faults (places c.args.code.letters)) c.args.text.now c.in_ok-row.row.now c.in_err-posting.field-0.0
    row.0 row.1 row.2 c.in_err-posting.ensures)
