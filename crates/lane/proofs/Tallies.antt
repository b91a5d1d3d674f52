-- What one step may add to the records of a book, and that commits stay counted by it.
use Rattle.std.proofs.Common.{◌≡◌, ℕ, zero, suc, ◌+◌, ◌-◌, ◌%◌, ◌<◌, ◌≤◌, Bool, true, false, cond, eqb, List, [], ◌∷◌, ◌++◌, ℤ, Some, None, Option, sym, refl, ap, ◌∙◌, subst, arith}
use mathlib.Core.Bool.{false≢true}
use Rattle.std.proofs.lemmas.Bool.{eqb-true, eqb-false, eq-eqb, both_ways}
use Rattle.journal.specs.declared.record.Record.{Record}
use Rattle.journal.specs.declared.record.Record.TheVariants.{Change, Commit}
use Rattle.lane.specs.Journals.{one_change, changes}

-- Records, and one more if there is one.
abbrev pub added : List Record → Option Record → List Record
added rs None = rs
added rs (Some r) = rs ++ (r ∷ [])

-- A step at this number of a seat that has recorded so many changes, and holds the lane or not: its record, and what the
-- number is then, how many changes the seat has recorded, and whether it holds the lane.
pub data Deed (number made : ℕ) (had : Bool) : Option Record → ℕ → ℕ → Bool → Type 0 where
  rests : (has : Bool) → (has ≡ true → had ≡ true) → Deed number made had None number made has
  takes_lane : (has : Bool) → number % 2 ≡ 0 → made ≡ 0 → Deed number made had None (number + 1) made has
  sets_cell : (has : Bool) (c : ℕ) (v : ℤ) → had ≡ true → number % 2 ≡ 1 → Deed number made had (Some (Change number c v)) number (made + 1) has
  commits_reader : (n seat kind tag : ℕ) → n % 2 ≡ 0 → n ≤ number → made ≡ 0 → Deed number made had (Some (Commit n seat kind tag made)) number made false
  commits_lane : (seat kind tag : ℕ) → had ≡ true → number % 2 ≡ 1 → Deed number made had (Some (Commit number seat kind tag made)) (number + 1) made false
  lets_go : had ≡ true → number % 2 ≡ 1 → made ≡ 0 → Deed number made had None (number - 1) made false

-- Of a commit's place among the records.
abbrev Counted : ℕ → List Record → List Record → ℕ → ℕ → Type 0
Counted number before after n count = (changes n before ≡ count) × (changes n after ≡ 0) × (n + n % 2 ≤ number)

abbrev CommitsCounted : ℕ → List Record → Type 0
CommitsCounted number rs = (before after : List Record) (n seat kind tag count : ℕ)
    → rs ≡ before ++ (Commit n seat kind tag count ∷ after) → Counted number before after n count

-- Changes have odd numbers up to this one; commits with odd numbers are below it.
pub record Tallied (number : ℕ) (rs : List Record) : Type 0 where
  pub odd : (n : ℕ) → 0 < changes n rs → (n % 2 ≡ 1) × (n ≤ number)
  pub counted : CommitsCounted number rs

-- Counting ---------------------------------------------------------------------

none : (n : ℕ) → (0 < n → ⊥) → n ≡ 0
none zero f = refl
none (suc n) f = absurd (f (omega arith))

changes_more : (n : ℕ) (rs : List Record) (r : Record) → changes n (rs ++ (r ∷ [])) ≡ changes n rs + one_change n r
changes_more n [] r = omega arith
changes_more n (x ∷ rs) r = let z = changes_more n rs r in omega arith

-- Where a list with one record more is parted at a record.
data Parted (rs : List Record) (r x : Record) (before after : List Record) : Type 0 where
  last : x ≡ r → before ≡ rs → after ≡ [] → Parted rs r x before after
  inside : (rest : List Record) → after ≡ rest ++ (r ∷ []) → rs ≡ before ++ (x ∷ rest) → Parted rs r x before after

no_record : (x : Record) (before after : List Record) → ◌≡◌ {A = List Record} [] (before ++ (x ∷ after)) → ⊥
no_record x [] after e = cc
no_record x (y ∷ before) after e = cc

parted : (rs : List Record) (r x : Record) (before after : List Record) → rs ++ (r ∷ []) ≡ before ++ (x ∷ after) → Parted rs r x before after
parted [] r x [] after e = last (cc) refl (cc)
parted [] r x (y ∷ before) after e = let q : [] ≡ before ++ (x ∷ after) = cc in absurd (no_record x before after q)
parted (z ∷ rs) r x [] after e = inside rs (cc) (cc)
parted (z ∷ rs) r x (y ∷ before) after e = let q : rs ++ (r ∷ []) ≡ before ++ (x ∷ after) = cc in let p : z ≡ y = cc in by p (parted rs r x before after q)
  where
    by : z ≡ y → Parted rs r x before after → Parted (z ∷ rs) r x (y ∷ before) after
    by p (last a b c) = last a (cc) c
    by p (inside rest a b) = inside rest a (cc)

-- One step more ----------------------------------------------------------------

pub tally_none : (number : ℕ) → Tallied number []
tally_none number = record { odd = λ n l. absurd (omega arith); counted = λ before after n seat kind tag count e. absurd (no_record _ before after e) }

module _ (number : ℕ) (rs : List Record) (t : Tallied number rs) where
  none_even : (n : ℕ) → n % 2 ≡ 0 → changes n rs ≡ 0
  none_even n e = none _ (λ l. let z = t.odd n l in omega (arith, z.0))

  none_above : (n : ℕ) → number < n → changes n rs ≡ 0
  none_above n e = none _ (λ l. let z = t.odd n l in omega (arith, z.1))

  tally_raised : Tallied (number + 1) rs
  tally_raised = record {
    odd = λ n l. (let z = t.odd n l in (z.0, omega (arith, z.1)));
    counted = λ before after n seat kind tag count e. (let z = t.counted before after n seat kind tag count e in (z.0, z.1, omega (arith, z.2)));
  }

  tally_lowered : number % 2 ≡ 1 → changes number rs ≡ 0 → Tallied (number - 1) rs
  tally_lowered o c = record {
    odd = λ n l. (let z = t.odd n l in (z.0, less n l z.1 (eqb n number) refl));
    counted = λ before after n seat kind tag count e. (let z = t.counted before after n seat kind tag count e in (z.0, z.1, omega (arith, z.2)));
  }
    where
      less : (n : ℕ) → 0 < changes n rs → n ≤ number → (b : Bool) → eqb n number ≡ b → n ≤ number - 1
      less n l h true e = let q : changes n rs ≡ changes number rs = ap (λ x. changes x rs) (eqb-true n number e) in absurd (omega arith)
      less n l h false e = let q = eqb-false n number e in omega arith

  more_changes : (n c : ℕ) (v : ℤ) (b : Bool) → eqb number n ≡ b → changes n (rs ++ (Change number c v ∷ [])) ≡ changes n rs + cond b 1 0
  more_changes n c v b e = subst (λ x. changes n (rs ++ (Change number c v ∷ [])) ≡ changes n rs + cond x 1 0) e (changes_more n rs (Change number c v))

  tally_change : (c : ℕ) (v : ℤ) → number % 2 ≡ 1 → Tallied number (rs ++ (Change number c v ∷ []))
  tally_change c v o = record { odd = λ n l. is_odd n l (eqb number n) refl; counted = all }
    where
      is_odd : (n : ℕ) → 0 < changes n (rs ++ (Change number c v ∷ [])) → (b : Bool) → eqb number n ≡ b → (n % 2 ≡ 1) × (n ≤ number)
      is_odd n l true e = let q = eqb-true number n e in (omega arith, omega arith)
      is_odd n l false e = let q = more_changes n c v false e in t.odd n (omega arith)

      not_now : (n : ℕ) → n + n % 2 ≤ number → (b : Bool) → eqb number n ≡ b → ◌≡◌ {A = ℕ} (cond b 1 0) 0
      not_now n l true e = absurd (let q = eqb-true number n e in omega arith)
      not_now n l false e = refl

      at : (n seat kind tag count : ℕ) (before after : List Record)
          → Parted rs (Change number c v) (Commit n seat kind tag count) before after → Counted number before after n count
      at n seat kind tag count before after (last a b d) = cc
      at n seat kind tag count before after (inside rest a b) =
          let z = t.counted before rest n seat kind tag count b in
          let x = changes_more n rest (Change number c v) in
          let y = not_now n z.2 (eqb number n) refl in
          (z.0, ap (changes n) a ∙ x ∙ omega (arith, z.1), z.2)

      all : CommitsCounted number (rs ++ (Change number c v ∷ []))
      all before after n seat kind tag count e =
          at n seat kind tag count before after (parted rs (Change number c v) (Commit n seat kind tag count) before after e)

  tally_commit : (n seat kind tag count : ℕ) → changes n rs ≡ count → n + n % 2 ≤ number → Tallied number (rs ++ (Commit n seat kind tag count ∷ []))
  tally_commit n seat kind tag count c l = record {
    odd = λ x h. (let z = changes_more x rs (Commit n seat kind tag count) in t.odd x (omega arith));
    counted = all;
  }
    where
      at : (n' seat' kind' tag' count' : ℕ) (before after : List Record)
          → Parted rs (Commit n seat kind tag count) (Commit n' seat' kind' tag' count') before after → Counted number before after n' count'
      at n' seat' kind' tag' count' before after (last a b d) =
          let p : n' ≡ n = cc in
          let q : count' ≡ count = cc in
          (ap (changes n') b ∙ ap (λ x. changes x rs) p ∙ c ∙ sym q, ap (changes n') d, omega arith)
      at n' seat' kind' tag' count' before after (inside rest a b) =
          let z = t.counted before rest n' seat' kind' tag' count' b in
          let x = changes_more n' rest (Commit n seat kind tag count) in
          (z.0, ap (changes n') a ∙ x ∙ omega (arith, z.1), z.2)

      all : CommitsCounted number (rs ++ (Commit n seat kind tag count ∷ []))
      all before after n' seat' kind' tag' count' e =
          at n' seat' kind' tag' count' before after (parted rs (Commit n seat kind tag count) (Commit n' seat' kind' tag' count') before after e)

pub tallied : {number made : ℕ} {had : Bool} {r : Option Record} {number' made' : ℕ} {has : Bool} (rs : List Record)
    → Deed number made had r number' made' has → Tallied number rs → (had ≡ true → changes number rs ≡ made) → Tallied number' (added rs r)
tallied rs (rests has f) t h = t
tallied {number} rs (takes_lane has e z) t h = tally_raised number rs t
tallied {number} rs (sets_cell has c v l o) t h = tally_change number rs t c v o
tallied {number} rs (commits_reader n seat kind tag e l z) t h = tally_commit number rs t n seat kind tag _ (none_even number rs t n e ∙ sym z) (omega arith)
tallied {number} rs (commits_lane seat kind tag l o) t h = tally_commit (number + 1) rs (tally_raised number rs t) number seat kind tag _ (h l) (omega arith)
tallied {number} rs (lets_go l o z) t h = tally_lowered number rs t o (h l ∙ z)

-- The seat that took the step has recorded as many changes as there are with the number, if it holds the lane.
pub tally_own : {number made : ℕ} {had : Bool} {r : Option Record} {number' made' : ℕ} {has : Bool} (rs : List Record)
    → Deed number made had r number' made' has → Tallied number rs → (had ≡ true → changes number rs ≡ made) → has ≡ true → changes number' (added rs r) ≡ made'
tally_own rs (rests has f) t h q = h (f q)
tally_own {number} rs (takes_lane has e z) t h q = none_above number rs t (number + 1) (omega arith) ∙ sym z
tally_own {number} rs (sets_cell has c v l o) t h q =
    let x = more_changes number rs t number c v true (eq-eqb number number refl) in
    omega (arith, h l)
tally_own rs (commits_reader n seat kind tag e l z) t h q = absurd (false≢true q)
tally_own rs (commits_lane seat kind tag l o) t h q = absurd (false≢true q)
tally_own rs (lets_go l o z) t h q = absurd (false≢true q)

-- While another seat holds the lane, a step adds no change and leaves the number.
pub tally_others : {number made : ℕ} {had : Bool} {r : Option Record} {number' made' : ℕ} {has : Bool} (rs : List Record)
    → Deed number made had r number' made' has → had ≡ false → number % 2 ≡ 1 → changes number' (added rs r) ≡ changes number rs
tally_others rs (rests has f) q o = refl
tally_others rs (takes_lane has e z) q o = absurd (omega arith)
tally_others {had = had} rs (sets_cell has c v l _) q o = absurd (both_ways had q l)
tally_others {number} {made} rs (commits_reader n seat kind tag e l z) q o = let x = changes_more number rs (Commit n seat kind tag made) in omega arith
tally_others {had = had} rs (commits_lane seat kind tag l _) q o = absurd (both_ways had q l)
tally_others {had = had} rs (lets_go l _ z) q o = absurd (both_ways had q l)
