-- What a cursor over the text of an import gives, and the postings that it still has ahead.
use Rattle.std.specs.Prelude.{◌≡◌, ℕ, ◌+◌, List, drop, Option, MatchOption}
use Rattle.money.specs.Amounts.{places}
use Rattle.imports.specs.declared.cursor.Postings.{Postings}
use Rattle.imports.specs.declared.posting.Posting.{Posting}
use Rattle.imports.specs.Reading.{Begins}
use Rattle.imports.specs.Totals.{Left}

-- The text at the cursor's place begins with the line of this posting, which has n bytes.
abbrev pub StandsAt : Postings → Posting → ℕ → Type 0
StandsAt s p n = Begins (places s.code.letters) (drop s.at s.text.now) p n

-- The cursor gives the posting whose line stands at its place and moves behind it, or gives nothing where no such line
-- stands there, and stays.
pub record Takes (s : Postings) (r : Option Posting) (t : Postings) : Type 0 where
  pub same_text : t.text.now ≡ s.text.now
  pub same_code : t.code ≡ s.code
  pub moves : MatchOption r (((p : Posting) (n : ℕ) → StandsAt s p n → ⊥) × (t.at ≡ s.at)) (λ p. (n : ℕ) × StandsAt s p n × (t.at ≡ s.at + n))

-- From the cursor's place on the text is the writing of these postings.
abbrev pub Ahead : Postings → List Posting → Type 0
Ahead s ps = Left (places s.code.letters) s.text.now s.at ps
