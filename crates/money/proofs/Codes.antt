-- How many digits the amounts of a currency have after the point. Assumes nothing.
use Rattle.std.proofs.Common.{ℕ, ◌≤◌, Bool, true, false, cond, List, codes, arith}
use Rattle.std.specs.Str.{bytes_eq}
use Rattle.money.specs.Amounts.{places}

pub places_small : (s : List ℕ) → places s ≤ 2
places_small s = at (bytes_eq s (codes "JPY"))
  where
    at : (b : Bool) → cond b 0 2 ≤ 2
    at true = omega arith
    at false = omega arith
