-- A queue from which a seat is taken, one place at a time.
use Rattle.std.proofs.Common.{◌≡◌, ℕ, zero, suc, ◌+◌, ◌<◌, ◌≤◌, Bool, true, false, cond, eqb, ltb, List, [], ◌∷◌, ◌++◌, length, get_or, take, set, sym, refl, ap, ◌∙◌, subst, add-one, arith, length-take, take-suc, take-suc-set}
use Rattle.std.proofs.lemmas.Bool.{eq-eqb, ne_eqb, lt-ltb}
use Rattle.lane.specs.State.{first_is, without}
use Rattle.queue.specs.Queued.{with_last}

without_last : (k x : ℕ) (q : List ℕ) → without k (q ++ (x ∷ [])) ≡ without k q ++ without k (x ∷ [])
without_last k x [] = refl
without_last k x (y ∷ q) = by (eqb y k) (without_last k x q)
  where
    by : (b : Bool) → without k (q ++ (x ∷ [])) ≡ without k q ++ without k (x ∷ []) → cond b (without k (q ++ (x ∷ []))) (y ∷ without k (q ++ (x ∷ []))) ≡ cond b (without k q) (y ∷ without k q) ++ without k (x ∷ [])
    by true e = e
    by false e = ap (λ z. y ∷ z) e

append_nothing : (q : List ℕ) → q ++ [] ≡ q
append_nothing [] = refl
append_nothing (x ∷ q) = ap (λ z. x ∷ z) (append_nothing q)

module _ (k : ℕ) (from : List ℕ) (i : ℕ) (h : i < length from) where
  next : take (i + 1) from ≡ take i from ++ (get_or from i 0 ∷ [])
  next = rw add-one (take-suc from i 0 h)

  pub left_out : get_or from i 0 ≡ k → (to : List ℕ) (j : ℕ) → take j to ≡ without k (take i from) → take j to ≡ without k (take (i + 1) from)
  left_out e to j p =
      let q : without k (get_or from i 0 ∷ []) ≡ [] = rw (eq-eqb (get_or from i 0) k e) in
      p ∙ sym (ap (without k) next ∙ without_last k (get_or from i 0) (take i from) ∙ ap (λ z. without k (take i from) ++ z) q ∙ append_nothing _)

  pub kept_in : (get_or from i 0 ≡ k → ⊥) → (to : List ℕ) (j : ℕ) → j < length to → take j to ≡ without k (take i from) → take (j + 1) (set to j (get_or from i 0)) ≡ without k (take (i + 1) from)
  kept_in ne to j l p =
      let q : without k (get_or from i 0 ∷ []) ≡ get_or from i 0 ∷ [] = rw (ne_eqb (get_or from i 0) k ne) in
      let r : take (j + 1) (set to j (get_or from i 0)) ≡ take j to ++ (get_or from i 0 ∷ []) = rw add-one (take-suc-set to j (get_or from i 0) l) in
      r ∙ ap (λ z. z ++ (get_or from i 0 ∷ [])) p
      ∙ sym (ap (without k) next ∙ without_last k (get_or from i 0) (take i from) ∙ ap (λ z. without k (take i from) ++ z) q)

pub first_in : (k n : ℕ) (q : List ℕ) → 0 < n → 0 < length q → eqb (get_or q 0 0) k ≡ first_is k (take n q)
first_in k zero q h l = absurd (omega arith)
first_in k (suc n) [] h l = absurd (omega arith)
first_in k (suc n) (x ∷ q) h l = refl

pub last_in : (k n : ℕ) (q : List ℕ) → n < 8 → length q ≡ 8 → take (n + 1) (set q n k) ≡ with_last k (take n q)
last_in k n q h l =
    let e : length (take n q) ≡ n = length-take n q ∙ omega arith in
    rw (e, lt-ltb n 8 h, add-one) (take-suc-set q n k (omega arith))
