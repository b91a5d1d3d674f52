-- Which bytes are posted for an import text.
use Rattle.std.specs.Prelude.{◌≡◌, ℕ, ◌⊎◌, List}
use Rattle.imports.specs.declared.fault.ImportFault.{ImportFault}
use Rattle.imports.specs.declared.posting.Posting.{Posting}
use Rattle.imports.specs.Faults.{Refused}
use Rattle.imports.specs.Printed.{refusal_line}
use Rattle.imports.specs.Texts.{Stands}

-- What is posted for a text that stands for no postings is the line of its fault. Of any other text nothing is said.
abbrev pub Posts : List ℕ → List ℕ → Type 0
Posts text out =
    ((code : List ℕ) × (ps : List Posting) × Stands text code ps)
    ⊎ ((fault : ImportFault) × Refused text fault × (out ≡ refusal_line fault))
