-- Which bytes list an import text. L is 76, the tab is 9 and the end of a line is 10.
use Rattle.std.specs.Prelude.{◌≡◌, ℕ, ◌⊎◌, List, [], ◌∷◌, ◌++◌, length, decimal}
use Rattle.std.specs.List.{flat_map}
use Rattle.imports.specs.declared.fault.ImportFault.{ImportFault}
use Rattle.imports.specs.declared.posting.Posting.{Posting}
use Rattle.imports.specs.Faults.{Refused}
use Rattle.imports.specs.Printed.{posting_text, refusal_line}
use Rattle.imports.specs.Texts.{Stands, reach, total_length}

-- The line of a posting, its amount in the smallest unit.
abbrev pub posting_line : Posting → List ℕ
posting_line p = posting_text p ++ 10 ∷ []

-- The last line: how many postings there are, their reach and their length.
abbrev pub last_line : List Posting → List ℕ
last_line ps = 76 ∷ 9 ∷ (decimal (length ps) ++ 9 ∷ (decimal (reach ps) ++ 9 ∷ (decimal (total_length ps) ++ 10 ∷ [])))

-- The listing of some postings.
abbrev pub listed : List Posting → List ℕ
listed ps = flat_map posting_line ps ++ last_line ps

-- These bytes list the text: the postings that it stands for, or the fault for which it is refused.
abbrev pub Lists : List ℕ → List ℕ → Type 0
Lists text out =
    ((code : List ℕ) × (ps : List Posting) × Stands text code ps × (out ≡ listed ps))
    ⊎ ((fault : ImportFault) × Refused text fault × (out ≡ refusal_line fault))
