-- The lines of a text that is cut at its ends. Assumes nothing.
use Rattle.std.proofs.Common.{◌≡◌, ℕ, ◌<◌, true, false, List, [], ◌∷◌, ◌++◌, length, refl, arith}
use Rattle.std.proofs.lemmas.Bool.{ne_eqb}
use Rattle.money.specs.Fields.{Lacks}
use Rattle.imports.specs.Lines.{Row, rows}

abbrev pub ended : List ℕ → Row
ended bytes = record { bytes = bytes; ended = true }

abbrev pub unended : List ℕ → Row
unended bytes = record { bytes = bytes; ended = false }

pub rows_ended : (l rest : List ℕ) → Lacks 10 l → rows (l ++ 10 ∷ rest) ≡ ended l ∷ rows rest
rows_ended [] rest p = refl
rows_ended (b ∷ l) rest p = rw (ne_eqb b 10 p.0, rows_ended l rest p.1) refl

pub rows_unended : (l : List ℕ) → 0 < length l → Lacks 10 l → rows l ≡ unended l ∷ []
rows_unended [] some p = absurd (omega arith)
rows_unended (b ∷ []) some p = rw (ne_eqb b 10 p.0) refl
rows_unended (b ∷ c ∷ l) some p = rw (ne_eqb b 10 p.0, rows_unended (c ∷ l) (omega arith) p.1) refl
