-- What reading a part of an import text must answer, from the parts of a line up to a line of the text.
use Rattle.std.specs.Prelude.{◌≡◌, ℕ, ◌+◌, ◌≤◌, List, [], ◌∷◌, ◌++◌, length, drop, decimal, Option, Result, ◌≢◌}
use Rattle.std.specs.Borrow.{Bor}
use Rattle.std.specs.Option as options
use Rattle.std.specs.Result as results
use Rattle.imports.specs.declared.fault.LineFault.{LineFault}
use Rattle.imports.specs.declared.fault.LineFault.TheVariants.{Cell, End}
use Rattle.imports.specs.declared.line.Line.{Line}
use Rattle.imports.specs.declared.line.Line.TheVariants.{Header, Post, Transfer}
use Rattle.imports.specs.declared.posting.Posting.{Posting}
use Rattle.money.specs.Amounts.{IsCode}
use Rattle.money.specs.declared.code.Code.{Code}
use Rattle.imports.specs.Texts.{top_cell, most_in_line, header, row, line, InRange}
use Rattle.money.specs.Fields.{Lacks}
use Rattle.imports.specs.Lines.{Row, rows, Fields, heading, post, transfer, parted, Whole, NoCell, Ladder, First, BadEnd, code_faults, row_faults, line_faults}

-- The two sides of the first place where the byte stands, or nothing where it stands nowhere.
abbrev pub Cuts : ℕ → List ℕ → Option (Bor (List ℕ) × Bor (List ℕ)) → Type 0
Cuts b bytes r = options.MatchOption r (Lacks b bytes) (λ sides. Lacks b sides.0.now × (bytes ≡ sides.0.now ++ b ∷ sides.1.now))

-- The field, or nothing where a tab stands in it.
abbrev pub LastField : List ℕ → Option (Bor (List ℕ)) → Type 0
LastField field r = options.MatchOption r (Lacks 9 field → ⊥) (λ same. Lacks 9 field × (same.now ≡ field))

-- The fields that a line of the code borrows from the text.
abbrev pub borrowed : Line → Fields
borrowed (Header code) = heading code.now
borrowed (Post cell amount) = post cell.now amount.now
borrowed (Transfer cell other amount) = transfer cell.now other.now amount.now

-- The fields of the line, or nothing where it has no such letter or another number of fields.
abbrev pub ReadsFields : List ℕ → Option Line → Type 0
ReadsFields bytes r =
    options.MatchOption r ((fields : Fields) → Whole fields → bytes ≢ parted fields) (λ l. Whole (borrowed l) × (bytes ≡ parted (borrowed l)))

-- The cell whose number the field is, or the fault that it is none.
abbrev pub ReadsCell : List ℕ → Result ℕ LineFault → Type 0
ReadsCell field r = results.MatchResult r (λ n. (n ≤ top_cell) × (field ≡ decimal n)) (λ fault. NoCell field × (fault ≡ Cell))

-- The posting whose line, without its end, these bytes are, or their first fault.
abbrev pub ReadsRow : ℕ → List ℕ → Result Posting LineFault → Type 0
ReadsRow k bytes r = results.MatchResult r (λ p. InRange k p × (bytes ≡ row k p)) (First (row_faults k bytes))

-- The text's first line has this as its first fault.
abbrev pub FirstRowFault : (List ℕ → Ladder) → List ℕ → LineFault → Type 0
FirstRowFault said text fault = (here : Row) × (after : List Row) × (rows text ≡ here ∷ after) × First (line_faults said here) fault

-- The text's first line without its end, or the fault of its end.
abbrev pub ReadsFirstRow : List ℕ → Result (Bor (List ℕ)) LineFault → Type 0
ReadsFirstRow text r =
    results.MatchResult r
    (λ bytes. Lacks 10 bytes.now × (length bytes.now ≤ most_in_line) × (text ≡ (bytes.now ++ 10 ∷ []) ++ drop (length bytes.now + 1) text))
    (λ fault. (fault ≡ End) × ((here : Row) × (after : List Row) × (rows text ≡ here ∷ after) × BadEnd here))

-- The text begins with the line of this posting, which has n bytes.
abbrev pub Begins : ℕ → List ℕ → Posting → ℕ → Type 0
Begins k text p n = InRange k p × (n ≡ length (line k p)) × (text ≡ line k p ++ drop n text)

-- The posting whose line the text begins with, and how many bytes that line has, or the first fault of the text's first line.
abbrev pub ReadsLine : ℕ → List ℕ → Result (Posting × ℕ) LineFault → Type 0
ReadsLine k text r =
    results.MatchResult r (λ told. Begins k text told.0 told.1) (FirstRowFault (row_faults k) text)

-- The code that a header without its end names, or the header's fault.
abbrev pub ReadsHeading : List ℕ → Result Code LineFault → Type 0
ReadsHeading bytes r = results.MatchResult r (λ code. IsCode code.letters × (bytes ≡ header code.letters)) (First (code_faults bytes))

-- The code of the header that the text begins with, or the first fault of the text's first line.
abbrev pub ReadsHeader : List ℕ → Result Code LineFault → Type 0
ReadsHeader text r =
    results.MatchResult r
    (λ code. IsCode code.letters × (text ≡ (header code.letters ++ 10 ∷ []) ++ drop 6 text))
    (FirstRowFault code_faults text)
