-- The postings of a checked import. Its text stands for one list only, so there is just one answer.
use Rattle.std.specs.Prelude.{◌≡◌, ℕ, ◌+◌, List, length, take}
use mathlib.Core.HLevel.{Σ_prop_path}
use mathlib.Core.List.{is_set}
use Rattle.std.proofs.Math.Logic.{∥∥₁_elim, ∥∥₁_prop}
use base.Stored.{Coded-set}
use Rattle.std.specs.List.{flat_map}
use Rattle.money.specs.Amounts.{places}
use Rattle.imports.specs.contracts.posting.Posting.{the_row}
use Rattle.imports.specs.declared.checked.Checked.{Checked}
use Rattle.imports.specs.declared.posting.Posting.{Posting}
use Rattle.imports.specs.Checks.{Tells}
use Rattle.imports.specs.Texts.{line}
use Rattle.imports.proofs.Admitted.{unambiguous}

postings_set : IsSet (List Posting)
postings_set = is_set (Coded-set the_row.coded)

abbrev One : Checked → Type 0
One i = (ps : List Posting) × ∥ Tells i ps ∥₁

one_reading : (i : Checked) → IsProp (One i)
one_reading i x y =
    Σ_prop_path (λ ps. ∥∥₁_prop)
    (∥∥₁_elim x.1 (postings_set x.0 y.0) (λ s. ∥∥₁_elim y.1 (postings_set x.0 y.0) (λ t. (unambiguous _ _ _ x.0 y.0 s t).1)))

one : (i : Checked) → One i
one i = ∥∥₁_elim i.stands (one_reading i) (λ s. (s.0, ∣ s.1 ∣₁))

pub postings : Checked → List Posting
postings i = (one i).0

-- What the import's text stands for are just these.
pub postings_are : (i : Checked) (ps : List Posting) → Tells i ps → postings i ≡ ps
unfolding postings
postings_are i ps s = ∥∥₁_elim (one i).1 (postings_set (one i).0 ps) (λ t. (unambiguous _ _ _ (one i).0 ps t s).1)

pub postings_told : (i : Checked) → ∥ Tells i (postings i) ∥₁
unfolding postings
postings_told i = (one i).1

-- Where in the text the line after the first n postings begins.
abbrev pub place : Checked → ℕ → ℕ
place i n = 6 + length (flat_map (line (places i.code.letters)) (take n (postings i)))
