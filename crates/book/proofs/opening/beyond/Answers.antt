use Rattle.std.proofs.Common.{not, sym, ◌∙◌, rules, tests}
use Rattle.std.proofs.lemmas.Iterator.{YieldsList-from_slice}
use Rattle.std.proofs.lemmas.Iterator.Search.{any_from_yields_List}
use Rattle.money.specs.Amounts.{within_limit}
use Rattle.book.proofs.Beyond.{beyond_is}
use Rattle.book.proofs.opening.beyond.Goals as goal

pub returns : goal.returns
returns c =
    any_from_yields_List (λ x. not (within_limit x)) _ _ _ c.any.ensures.ran (YieldsList-from_slice c.args.cells.now (cc)) (λ x b q k. search (rules, tests))
    ∙ sym (beyond_is c.args.cells.now)
