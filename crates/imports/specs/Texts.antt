-- Import text, by its writing: which bytes stand for a list of postings in a currency, and what such a list reaches.
use Rattle.std.specs.Prelude.{◌≡◌, ℕ, ◌+◌, ◌≤◌, max, List, [], ◌∷◌, ◌++◌, length, decimal, ◌≢◌}
use Rattle.std.specs.List.{flat_map, AllByRecursion}
use Rattle.money.specs.Amounts.{IsCode, places, amount_text, Amount}
use Rattle.imports.specs.declared.posting.Posting.{Posting}
use Rattle.imports.specs.declared.posting.Posting.TheVariants.{Post, Transfer}

-- A text has at most so many bytes.
abbrev pub most_bytes : ℕ
most_bytes = 32768

-- A line has at most so many bytes, its end not counted.
abbrev pub most_in_line : ℕ
most_in_line = 80

-- The highest cell.
abbrev pub top_cell : ℕ
top_cell = 4095

-- The bytes: H is 72, P is 80, T is 84, the tab that parts fields is 9, the end of a line is 10.

-- The header of a text in this currency, without its end.
abbrev pub header : List ℕ → List ℕ
header code = 72 ∷ 9 ∷ code

-- The line of a posting, without its end, where amounts have k digits after the point.
abbrev pub row : ℕ → Posting → List ℕ
row k (Post cell amount) = 80 ∷ 9 ∷ (decimal cell ++ 9 ∷ amount_text k amount)
row k (Transfer cell other amount) = 84 ∷ 9 ∷ (decimal cell ++ 9 ∷ (decimal other ++ 9 ∷ amount_text k amount))

abbrev pub line : ℕ → Posting → List ℕ
line k p = row k p ++ 10 ∷ []

-- The text that stands for these postings in this currency.
abbrev pub written : List ℕ → List Posting → List ℕ
written code ps = (header code ++ 10 ∷ []) ++ flat_map (line (places code)) ps

-- A posting that can be written: its cells exist, a transfer has two, and its amount is within the limit.
abbrev pub InRange : ℕ → Posting → Type 0
InRange k (Post cell amount) = (cell ≤ top_cell) × Amount k amount
InRange k (Transfer cell other amount) = (cell ≤ top_cell) × (other ≤ top_cell) × (cell ≢ other) × Amount k amount

-- The text stands for these postings in this currency.
pub record Stands (text code : List ℕ) (ps : List Posting) : Type 0 where
  pub currency : IsCode code
  pub ranges : AllByRecursion (InRange (places code)) ps
  pub size : length text ≤ most_bytes
  pub writing : text ≡ written code ps

-- One text, one currency, one list.
abbrev pub Unambiguous : Type 0
Unambiguous = (text code code' : List ℕ) (ps ps' : List Posting) → Stands text code ps → Stands text code' ps' → (code ≡ code') × (ps ≡ ps')

-- The highest cell that a posting names, plus 1.
abbrev pub posting_reach : Posting → ℕ
posting_reach (Post cell amount) = cell + 1
posting_reach (Transfer cell other amount) = max cell other + 1

-- How many cells a posting reads and writes.
abbrev pub posting_length : Posting → ℕ
posting_length (Post cell amount) = 2
posting_length (Transfer cell other amount) = 4

-- The highest cell named plus 1, or 0 where there is none.
abbrev pub reach : List Posting → ℕ
reach [] = 0
reach (p ∷ ps) = max (posting_reach p) (reach ps)

abbrev pub total_length : List Posting → ℕ
total_length [] = 0
total_length (p ∷ ps) = posting_length p + total_length ps
