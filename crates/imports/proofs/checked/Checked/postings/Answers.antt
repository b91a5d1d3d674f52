use Rattle.std.proofs.Common.{sym, ap}
use Rattle.money.specs.Amounts.{places}
use Rattle.imports.proofs.Taking.{ahead, left_same}
use Rattle.imports.proofs.checked.Checked.postings.Goals as goal

pub returns : goal.returns
returns c ps s =
    let told = c.postings_from.ensures in
    left_same ps (ap (λ x. places x.letters) (sym told.code)) (sym told.text) (sym told.at) (ahead _ _ ps s)
