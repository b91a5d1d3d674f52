-- What an import counts over its postings, and its postings from a place of the text on.
use Rattle.std.specs.Prelude.{◌≡◌, ℕ, ◌+◌, ◌≤◌, max, List, [], ◌∷◌, length, drop, Some, None, Option}
use Rattle.std.specs.List.{flat_map, AllByRecursion}
use Rattle.imports.specs.declared.posting.Posting.{Posting}
use Rattle.imports.specs.declared.totals.Totals.{Totals}
use Rattle.imports.specs.Texts.{line, InRange, posting_reach, posting_length, reach, total_length}

-- How many postings there are, the highest cell that they name plus 1, and how many cells they read and write.
abbrev pub TotalsOf : List Posting → Totals → Type 0
TotalsOf ps t = (t.count ≡ length ps) × (t.reach ≡ reach ps) × (t.length ≡ total_length ps)

-- One posting more.
pub record Adds (t : Totals) (p : Posting) (u : Totals) : Type 0 where
  pub counts : u.count ≡ t.count + 1
  pub reaches : u.reach ≡ max t.reach (posting_reach p)
  pub lasts : u.length ≡ t.length + posting_length p

-- From this place on the text is the writing of these postings.
pub record Left (k : ℕ) (text : List ℕ) (at : ℕ) (ps : List Posting) : Type 0 where
  pub within : at ≤ length text
  pub ranges : AllByRecursion (InRange k) ps
  pub writing : drop at text ≡ flat_map (line k) ps

-- Of these postings the first is given, or nothing where there is none; for what is then left, P holds.
abbrev pub Gives : List Posting → Option Posting → (List Posting → Type 0) → Type 0
Gives [] r P = (r ≡ None) × P []
Gives (p ∷ ps) r P = (r ≡ Some p) × P ps
