-- A list cut at the first place of a byte. Assumes nothing.
use Rattle.std.proofs.Common.{◌≡◌, ℕ, List, [], ◌∷◌, ◌++◌, get_or, drop, sym, refl, ap, subst}
use Rattle.money.specs.Fields.{Lacks}

pub head : {x y : ℕ} {s t : List ℕ} → x ∷ s ≡ y ∷ t → x ≡ y
head e = ap (λ l. get_or l 0 0) e

pub tail : {x y : ℕ} {s t : List ℕ} → x ∷ s ≡ y ∷ t → s ≡ t
tail e = ap (drop 1) e

module _ (b : ℕ) where
  pub lacks_not : (x s : List ℕ) → Lacks b (x ++ b ∷ s) → ⊥
  lacks_not [] s l = l.0 refl
  lacks_not (c ∷ x) s l = lacks_not x s l.1

  -- the first place is one
  pub cut_same : (x y s t : List ℕ) → Lacks b x → Lacks b y → x ++ b ∷ s ≡ y ++ b ∷ t → (x ≡ y) × (s ≡ t)
  cut_same [] [] s t p q e = (refl, tail e)
  cut_same [] (d ∷ y) s t p q e = absurd (q.0 (sym (head e)))
  cut_same (c ∷ x) [] s t p q e = absurd (p.0 (head e))
  cut_same (c ∷ x) (d ∷ y) s t p q e =
      let rest = cut_same x y s t p.1 q.1 (tail e) in
      (λ i. head e i ∷ rest.0 i, rest.1)

  pub uncut : (x y t : List ℕ) → Lacks b x → x ≡ y ++ b ∷ t → ⊥
  uncut x y t p e = lacks_not y t (subst (Lacks b) e p)
