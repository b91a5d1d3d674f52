-- What reading the letter and the fields of a line has found. Assumes nothing.
use Rattle.std.proofs.Common.{◌≡◌, ℕ, List, [], ◌∷◌, ◌++◌, sym, ◌∙◌, arith}
use Rattle.money.specs.Fields.{Lacks}
use Rattle.imports.specs.Lines.{Fields, heading, post, transfer, parted, Whole}
use Rattle.money.proofs.Cuts.{head, tail, cut_same}

-- a line that begins with a P has the fields of a post or none, and one that begins with a T those of a transfer or none
module _ (bytes rest : List ℕ) where
  other : {x y : ℕ} {s t : List ℕ} → (x ≡ y → ⊥) → bytes ≡ x ∷ s → bytes ≡ y ∷ t → ⊥
  other n p q = n (head (sym p ∙ q))

  pub no_post : bytes ≡ 80 ∷ 9 ∷ rest → ((cell amount : List ℕ) → Lacks 9 cell → Lacks 9 amount → rest ≡ cell ++ 9 ∷ amount → ⊥) → (f : Fields) → Whole f → bytes ≡ parted f → ⊥
  no_post is none (heading c) w e = other (omega arith) is e
  no_post is none (post c a) w e = none c a w.0 w.1 (tail (tail (sym is ∙ e)))
  no_post is none (transfer c o a) w e = other (omega arith) is e

  pub no_transfer : bytes ≡ 84 ∷ 9 ∷ rest → ((cell other amount : List ℕ) → Lacks 9 cell → Lacks 9 other → Lacks 9 amount → rest ≡ cell ++ 9 ∷ (other ++ 9 ∷ amount) → ⊥) → (f : Fields) → Whole f → bytes ≡ parted f → ⊥
  no_transfer is none (heading c) w e = other (omega arith) is e
  no_transfer is none (post c a) w e = other (omega arith) is e
  no_transfer is none (transfer c o a) w e = none c o a w.0 w.1 w.2 (tail (tail (sym is ∙ e)))

-- what stands in front of the first tab of a line that has fields is one of three letters
module _ (bytes l r : List ℕ) (lacks : Lacks 9 l) (cut : bytes ≡ l ++ 9 ∷ r) where
  lettered : (x : ℕ) (s : List ℕ) → (x ≡ 9 → ⊥) → bytes ≡ x ∷ 9 ∷ s → l ≡ x ∷ []
  lettered x s n e = (cut_same 9 l (x ∷ []) r s lacks (n, tt) (sym cut ∙ e)).0

  pub no_letter : (l ≡ 72 ∷ [] → ⊥) → (l ≡ 80 ∷ [] → ⊥) → (l ≡ 84 ∷ [] → ⊥) → (f : Fields) → Whole f → bytes ≡ parted f → ⊥
  no_letter h p t (heading c) w e = h (lettered 72 c (omega arith) e)
  no_letter h p t (post c a) w e = p (lettered 80 _ (omega arith) e)
  no_letter h p t (transfer c o a) w e = t (lettered 84 _ (omega arith) e)
