-- Fields of a line of text, and the byte that parts them.
use Rattle.std.specs.Prelude.{ℕ, List, ◌≢◌}
use Rattle.std.specs.List.{AllByRecursion}

-- The byte does not stand in the list.
abbrev pub Lacks : ℕ → List ℕ → Type 0
Lacks b bytes = AllByRecursion (λ x. x ≢ b) bytes
