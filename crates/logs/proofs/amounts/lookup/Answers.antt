-- The amount of the first entry that tells the cell.
use Rattle.std.proofs.Common.{◌≡◌, ◌∙◌, ap, rules, tests, eqb}
use Rattle.std.specs.Option.{option_map}
use Rattle.std.proofs.lemmas.Iterator.{YieldsList-from_slice}
use Rattle.std.proofs.lemmas.Iterator.Search.{find_from_yields_List}
use Rattle.lane.specs.declared.written.Written.{Written}
use Rattle.logs.proofs.Entering.{amount_of_first}
use Rattle.logs.proofs.amounts.lookup.Goals as goal

pub returns : goal.returns
returns c =
    let h = find_from_yields_List (λ (x : Written). eqb x.cell c.args.cell) _ _ c.find.result c.find.ensures.ran (YieldsList-from_slice c.args.log.now cc) (λ x b q k. search (rules, tests)) in
    let m : c.map.result ≡ option_map (λ (x : Written). x.amount) (option_map (λ x. x.now) c.find.result) = (let k = c.map.ensures.cases in search (rules, tests)) in
    m ∙ ap (λ o. option_map (λ (x : Written). x.amount) o) h ∙ amount_of_first c.args.cell c.args.log.now
