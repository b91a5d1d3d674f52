use Rattle.std.proofs.Common.{[], refl, inl, inr, arith}
use Rattle.imports.specs.Lines.{rows}
use Rattle.imports.proofs.FirstRow.{first_row_is, behind_row}
use Rattle.imports.proofs.Rows.{ended, unended, rows_unended}
use Rattle.imports.proofs.read.first_row.Goals as goal
use Rattle.imports.proofs.read.first_row.Goals.{in_default-via-in-Some+else-row-le-MOST_IN_LINE, in_default-via-in_default}

pub returns-in-Some : goal.returns-in-Some
returns-in-Some c =
    let cut = c.in-Some.ensures in
    (cut.0, c.if-row-le-MOST_IN_LINE.true, behind_row _ _ _ cut.0 cut.1)

pub returns-in_default : goal.returns-in_default
returns-in_default c =
    elim c.in_default.branch [
      | in_default-via-in-Some+else-row-le-MOST_IN_LINE w ↦ (
        refl,
        (ended w.in-Some.row.now, rows w.in-Some.field-0-1.now, first_row_is _ _ _ w.in-Some.ensures.0 w.in-Some.ensures.1, inr (omega (arith, w.if-row-le-MOST_IN_LINE.false))),
      )
      | in_default-via-in_default w ↦ (refl, (unended c.args.text.now, [], rows_unended c.args.text.now c.requires w.in_default.ensures, inl refl))
    ]
