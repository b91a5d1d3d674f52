-- What each kind of body does when it runs alone on some cells, in the words of its subject.
use Rattle.std.specs.Prelude.{ℕ, suc, ◌+◌, ◌-◌, Bool, true, cond, ◌&&◌, List, [], ◌∷◌, ◌++◌, take, drop, ℤ, pos, ◌+ℤ◌, ◌-ℤ◌, slice_index_or, slice_set}
use Rattle.imports.specs.declared.posting.Posting.{Posting}
use Rattle.imports.specs.declared.posting.Posting.TheVariants.{Post, Transfer}
use Rattle.body.specs.declared.steps.ScriptStep.{ScriptStep}
use Rattle.body.specs.declared.steps.ScriptStep.TheVariants.{Read, Put, Carry}
use Rattle.body.specs.Imports.{post_good, transfer_good}
use Rattle.body.specs.Plans.{Done}
use Rattle.money.specs.Amounts.{within_limit}

abbrev pub amount_in : List ℤ → ℕ → ℤ
amount_in cells c = slice_index_or cells c (pos 0)

-- The amounts that a posting reads, in order.
abbrev pub reads_of : Posting → List ℤ → List ℤ
reads_of (Post cell amount) cells = amount_in cells cell ∷ []
reads_of (Transfer from to amount) cells = amount_in cells from ∷ amount_in cells to ∷ []

-- Whether a posting can be booked: the amounts read and the new ones are within the limit.
abbrev pub can_book : Posting → List ℤ → Bool
can_book (Post cell amount) cells = post_good amount (amount_in cells cell)
can_book (Transfer from to amount) cells = transfer_good amount (amount_in cells from) (amount_in cells to)

-- The cells after a posting.
abbrev pub booked_one : Posting → List ℤ → List ℤ
booked_one (Post cell amount) cells = slice_set cells cell (amount_in cells cell +ℤ amount)
booked_one (Transfer from to amount) cells = slice_set (slice_set cells from (amount_in cells from -ℤ amount)) to (amount_in cells to +ℤ amount)

-- The postings applied one after the other, those that cannot be booked left out and counted.
abbrev pub booked : List Posting → List ℤ → Done ℕ
booked [] cells = record { outcome = record { handed = []; cells = cells }; result = 0 }
booked (p ∷ ps) cells =
    let rest = booked ps (cond (can_book p cells) (booked_one p cells) cells) in
    record {
      outcome = record { handed = reads_of p cells ++ rest.outcome.handed; cells = rest.outcome.cells };
      result = cond (can_book p cells) 0 1 + rest.result;
    }

-- The amounts that a total is handed: those of its range in order, up to one beyond the limit.
abbrev pub handed_of : List ℤ → List ℤ
handed_of [] = []
handed_of (a ∷ rest) = a ∷ cond (within_limit a) (handed_of rest) []

abbrev pub all_within_limit : List ℤ → Bool
all_within_limit [] = true
all_within_limit (a ∷ rest) = within_limit a && all_within_limit rest

abbrev pub sum_of : List ℤ → ℤ
sum_of [] = pos 0
sum_of (a ∷ rest) = a +ℤ sum_of rest

-- The cells of a range.
abbrev pub range : ℕ → ℕ → List ℤ → List ℤ
range first last cells = take (suc (last - first)) (drop first cells)

-- A total writes the sum of its range to the target, where each amount and the sum are within the limit.
abbrev pub totalled : ℕ → ℕ → ℕ → List ℤ → Done (Unit {0})
totalled first last target cells =
    let amounts = range first last cells in
    record {
      outcome = record {
        handed = handed_of amounts;
        cells = cond (all_within_limit amounts && within_limit (sum_of amounts)) (slice_set cells target (sum_of amounts)) cells;
      };
      result = tt;
    }

-- A script does its steps in order, and ends at a carried amount beyond the limit.
abbrev pub scripted : List ScriptStep → ℤ → List ℤ → Done (Unit {0})
scripted [] carried cells = record { outcome = record { handed = []; cells = cells }; result = tt }
scripted (Read cell ∷ steps) carried cells =
    let rest = scripted steps (amount_in cells cell) cells in
    record { outcome = record { handed = amount_in cells cell ∷ rest.outcome.handed; cells = rest.outcome.cells }; result = tt }
scripted (Put cell amount ∷ steps) carried cells = scripted steps carried (slice_set cells cell amount)
scripted (Carry cell ∷ steps) carried cells =
    cond (within_limit carried) (scripted steps carried (slice_set cells cell carried)) (record { outcome = record { handed = []; cells = cells }; result = tt })
