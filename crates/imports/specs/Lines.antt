-- The lines of a text, and the first fault of a line.
use Rattle.std.specs.Prelude.{◌≡◌, ℕ, ◌+◌, ◌<◌, ◌≤◌, Bool, true, false, cond, ◌⊎◌, List, [], ◌∷◌, ◌++◌, length, drop, decimal, ◌==◌, ◌≢◌}
use Rattle.money.specs.Amounts.{IsCode, places, Malformed, Beyond}
use Rattle.money.specs.Fields.{Lacks}
use Rattle.money.specs.declared.amount.AmountFault.TheVariants.{Form, Limit}
use Rattle.imports.specs.declared.fault.LineFault.{LineFault}
use Rattle.imports.specs.declared.fault.LineFault.TheVariants.{End, Header, Letter, Cell, Twice, Amount}
use Rattle.imports.specs.Texts.{most_in_line, top_cell}

-- A line of a text: its bytes without the end, and whether byte 10 ended it.
pub record Row : Type 0 where
  pub bytes : List ℕ
  pub ended : Bool

-- One more byte in front of the first line.
abbrev pub onto : ℕ → List Row → List Row
onto b [] = record { bytes = b ∷ []; ended = false } ∷ []
onto b (r ∷ rs) = record { bytes = b ∷ r.bytes; ended = r.ended } ∷ rs

-- The lines of a text: byte 10 ends one, and what follows the last byte 10 is a line that is not ended.
abbrev pub rows : List ℕ → List Row
rows [] = []
rows (b ∷ bs) = cond (b == 10) (record { bytes = []; ended = true } ∷ rows bs) (onto b (rows bs))

-- A line by its letter and the fields after it: H with a code, P with cell and amount, T with two cells and amount.
pub data Fields : Type 0 where
  heading : (code : List ℕ) → Fields
  post : (cell amount : List ℕ) → Fields
  transfer : (cell other amount : List ℕ) → Fields

-- The line that has these fields, parted by tabs.
abbrev pub parted : Fields → List ℕ
parted (heading code) = 72 ∷ 9 ∷ code
parted (post cell amount) = 80 ∷ 9 ∷ (cell ++ 9 ∷ amount)
parted (transfer cell other amount) = 84 ∷ 9 ∷ (cell ++ 9 ∷ (other ++ 9 ∷ amount))

-- No tab stands in a field.
abbrev pub Whole : Fields → Type 0
Whole (heading code) = Lacks 9 code
Whole (post cell amount) = Lacks 9 cell × Lacks 9 amount
Whole (transfer cell other amount) = Lacks 9 cell × Lacks 9 other × Lacks 9 amount

-- The line has one of these letters and as many fields, and P holds of them.
abbrev pub HasFields : List ℕ → (Fields → Type 0) → Type 0
HasFields bytes P = (fields : Fields) × Whole fields × (bytes ≡ parted fields) × P fields

-- An H with a code.
abbrev pub NamesCode : Fields → Type 0
NamesCode (heading code) = IsCode code
NamesCode (post cell amount) = ⊥
NamesCode (transfer cell other amount) = ⊥

-- A P or a T.
abbrev pub IsPosting : Fields → Type 0
IsPosting (heading code) = ⊥
IsPosting (post cell amount) = Unit {0}
IsPosting (transfer cell other amount) = Unit {0}

-- The field is the number of no cell.
abbrev pub NoCell : List ℕ → Type 0
NoCell field = (n : ℕ) → n ≤ top_cell → field ≢ decimal n

abbrev pub BadCell : Fields → Type 0
BadCell (heading code) = ⊥
BadCell (post cell amount) = NoCell cell
BadCell (transfer cell other amount) = NoCell cell ⊎ NoCell other

abbrev pub OneCell : Fields → Type 0
OneCell (heading code) = ⊥
OneCell (post cell amount) = ⊥
OneCell (transfer cell other amount) = cell ≡ other

-- P holds of the amount's field.
abbrev pub AmountField : (List ℕ → Type 0) → Fields → Type 0
AmountField P (heading code) = ⊥
AmountField P (post cell amount) = P amount
AmountField P (transfer cell other amount) = P amount

-- The faults that a line can have, in order, each with the condition under which the line has it.
abbrev pub Ladder : Type 1
Ladder = List (Type 0 × LineFault)

-- The first fault of a ladder whose condition holds.
abbrev pub First : Ladder → LineFault → Type 0
First [] fault = ⊥
First (step ∷ steps) fault = (step.0 × (fault ≡ step.1)) ⊎ ((step.0 → ⊥) × First steps fault)

abbrev pub BadEnd : Row → Type 0
BadEnd r = (r.ended ≡ false) ⊎ (most_in_line < length r.bytes)

-- The faults of a header that has its end.
abbrev pub code_faults : List ℕ → Ladder
code_faults bytes = (HasFields bytes NamesCode → ⊥, Header) ∷ []

-- The faults of every other line that has its end, where amounts have k digits after the point.
abbrev pub row_faults : ℕ → List ℕ → Ladder
row_faults k bytes =
    (HasFields bytes IsPosting → ⊥, Letter)
    ∷ (HasFields bytes BadCell, Cell)
    ∷ (HasFields bytes OneCell, Twice)
    ∷ (HasFields bytes (AmountField (Malformed k)), Amount Form)
    ∷ (HasFields bytes (AmountField (Beyond k)), Amount Limit)
    ∷ []

-- The faults of a line: first those of its end, then those of what it says.
abbrev pub line_faults : (List ℕ → Ladder) → Row → Ladder
line_faults said r = (BadEnd r, End) ∷ said r.bytes

-- The faults of a line that stands behind these lines. The currency is what line 1 has after H and a tab.
abbrev pub faults_after : List Row → Row → Ladder
faults_after [] r = line_faults code_faults r
faults_after (first ∷ rest) r = line_faults (row_faults (places (drop 2 first.bytes))) r

-- Line n of the text, counted from 1, is faulty, and this is its first fault.
pub record Faulty (text : List ℕ) (n : ℕ) (fault : LineFault) : Type 0 where
  pub before : List Row
  pub here : Row
  pub after : List Row
  pub lines : rows text ≡ before ++ here ∷ after
  pub count : n ≡ length before + 1
  pub first : First (faults_after before here) fault
