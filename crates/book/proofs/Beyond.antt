-- A search for an amount beyond the limit.
use Rattle.std.proofs.Common.{◌≡◌, not, ◌||◌, List, ℤ, refl}
use Rattle.std.specs.List.{list_any}
use Rattle.std.proofs.lemmas.List.Recursion.{same_from_clauses}
use Rattle.money.specs.Amounts.{within_limit}
use Rattle.lane.specs.Calls.{some_beyond}

pub beyond_is : (l : List ℤ) → some_beyond l ≡ list_any (λ x. not (within_limit x)) l
beyond_is = same_from_clauses some_beyond (list_any (λ x. not (within_limit x))) (λ x b. not (within_limit x) || b) refl (λ _ _. refl) (λ _ _. refl)
