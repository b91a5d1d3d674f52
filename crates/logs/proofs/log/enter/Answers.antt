use Rattle.std.proofs.Common.{take, set, unwrap_or, sym, ap, ◌∙◌}
use lib.Seq.{set_out}
use Rattle.logs.specs.Entered.{found}
use Rattle.logs.proofs.Entering.{enters_at}
use Rattle.logs.proofs.log.enter.Goals as goal
use Rattle.logs.proofs.log.enter.Goals.{then-at-stretch, else-at-stretch}

pub returns : goal.returns
returns g c =
    let cell = g.E.Entry.cell in
    let s = c.args.stretch.now in
    let r =
    enters_at cell (cell c.args.entry) s c.args.used c.min-end.result c.unwrap_or-at.result c.min-end.ensures
    (c.unwrap_or-at.ensures ∙ ap (λ z. unwrap_or z c.min-end.result) (c.find-found.ensures ∙ ap (λ z. found cell z (take c.min-end.result s)) c.cell_of.ensures)) in
    record {
      laid = elim c.if-at-stretch.branch [
        | then-at-stretch w ↦ w.stretch-is ∙ ap (λ z. set s z c.args.entry) r.0
        | else-at-stretch w ↦ w.stretch-is ∙ sym (set_out s c.unwrap_or-at.result c.args.entry w.if-at-stretch.false) ∙ ap (λ z. set s z c.args.entry) r.0
      ];
      grown = r.1;
    }
