-- The first entry that tells the cell stands at its place.
use Rattle.std.proofs.Common.{◌≡◌, sym, ◌∙◌, rules, tests, eqb}
use Rattle.std.proofs.lemmas.Iterator.{YieldsList-from_slice}
use Rattle.std.proofs.lemmas.Iterator.Search.{position_from_yields_List}
use Rattle.logs.proofs.Entering.{found_first}
use Rattle.logs.proofs.log.find.Goals as goal

pub returns-in_err-at : goal.returns-in_err-at
returns-in_err-at g c =
    let same : c.from_residual.result ≡ c.position.result = (let was = c.in_err-at.was in search rules) in
    same
    ∙ position_from_yields_List (λ x. eqb (g.E.Entry.cell x) c.args.cell) _ _ _ c.position.ensures.ran (YieldsList-from_slice c.args.log.now cc) (λ x b q k. search (rules, tests))
    ∙ found_first g.E.Entry.cell c.args.cell c.args.log.now

pub returns : goal.returns
returns g c =
    sym c.in_ok-at.was
    ∙ position_from_yields_List (λ x. eqb (g.E.Entry.cell x) c.args.cell) _ _ _ c.position.ensures.ran (YieldsList-from_slice c.args.log.now cc) (λ x b q k. search (rules, tests))
    ∙ found_first g.E.Entry.cell c.args.cell c.args.log.now
