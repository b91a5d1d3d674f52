-- What the check of an import text answers.
use Rattle.std.specs.Prelude.{◌≡◌, ℕ, List, vec_items, Result, MatchResult}
use Rattle.imports.specs.declared.checked.Checked.{Checked}
use Rattle.imports.specs.declared.fault.ImportFault.{ImportFault}
use Rattle.imports.specs.declared.posting.Posting.{Posting}
use Rattle.imports.specs.declared.survey.Survey.{Survey}
use Rattle.imports.specs.Faults.{Refused}
use Rattle.imports.specs.Texts.{Stands}
use Rattle.imports.specs.Totals.{TotalsOf}

-- The import holds a text that stands for these postings in its currency.
abbrev pub Tells : Checked → List Posting → Type 0
Tells import ps = Stands (vec_items import.text) import.code.letters ps

-- The import holds this text, which stands for some postings.
abbrev pub Admits : List ℕ → Checked → Type 0
Admits text import = (vec_items import.text ≡ text) × ((ps : List Posting) × Tells import ps)

-- The text is the writing of no postings in any currency, and this is its fault.
abbrev pub Refuses : List ℕ → ImportFault → Type 0
Refuses text fault = Refused text fault × ((code : List ℕ) (ps : List Posting) → Stands text code ps → ⊥)

abbrev pub Checks : List ℕ → Result Checked ImportFault → Type 0
Checks text r = MatchResult r (Admits text) (Refuses text)

-- The same of a text that stays where it is, with what its postings come to.
abbrev pub Surveys : List ℕ → Result Survey ImportFault → Type 0
Surveys text r = MatchResult r (λ s. (ps : List Posting) × Stands text s.code.letters ps × TotalsOf ps s.totals) (Refuses text)
