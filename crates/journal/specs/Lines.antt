-- The line of a journal record. W is 87, C is 67, the tab that parts fields is 9 and the end of a line is 10.
use Rattle.std.specs.Prelude.{◌≡◌, ℕ, ◌+◌, ◌^◌, ◌<◌, List, [], ◌∷◌, ◌++◌, length, take, drop, decimal}
use Rattle.std.specs.Int.Signed.{mag}
use Rattle.std.specs.Fmt.{signed_decimal}
use Rattle.journal.specs.declared.record.Record.{Record}
use Rattle.journal.specs.declared.record.Record.TheVariants.{Change, Commit}

-- A change is W, number, cell and amount; a commit is C, number, seat, kind, tag and count of changes.
abbrev pub line_of : Record → List ℕ
line_of (Change number cell amount) = 87 ∷ 9 ∷ (decimal number ++ 9 ∷ (decimal cell ++ 9 ∷ (signed_decimal amount ++ 10 ∷ [])))
line_of (Commit number seat kind tag count) =
    67 ∷ 9 ∷ (decimal number ++ 9 ∷ (decimal seat ++ 9 ∷ (decimal kind ++ 9 ∷ (decimal tag ++ 9 ∷ (decimal count ++ 10 ∷ [])))))

-- The record's numbers have 32 bits, and its amount is a signed number of 64 bits.
abbrev pub FitsRecord : Record → Type 0
FitsRecord (Change number cell amount) = (number < 2 ^ 32) × (cell < 2 ^ 32) × (mag amount < 2 ^ 63)
FitsRecord (Commit number seat kind tag count) =
    (number < 2 ^ 32) × (seat < 2 ^ 32) × (kind < 2 ^ 32) × (tag < 2 ^ 32) × (count < 2 ^ 32)

-- Two different records have different lines.
abbrev pub Distinct : Type 0
Distinct = (r s : Record) → FitsRecord r → FitsRecord s → line_of r ≡ line_of s → r ≡ s

-- The buffer with these bytes from this place on, and every other byte as it was.
abbrev pub put : ℕ → List ℕ → List ℕ → List ℕ
put place bytes buffer = take place buffer ++ (bytes ++ drop (place + length bytes) buffer)
