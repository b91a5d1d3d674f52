-- What a write to a long list does to the stretches of it, and the logs by places.
use Rattle.std.proofs.Common.{◌≡◌, ℕ, suc, ◌+◌, ◌-◌, ◌*◌, ◌<◌, ◌≤◌, Bool, true, false, cond, ◌||◌, eqb, ltb, ◌≢◌, ◌⊎◌, List, [], ◌∷◌, ◌++◌, length, get_or, take, drop, set, ℤ, sym, refl, ap, ◌∙◌, subst, inl, inr, mul-le-mul_left, arith, length-append, length-drop, length-take, take-suc-set, drop-set-lt}
use mathlib.Core.Bool.{false≢true}
use lib.Dec.{leb-suc-suc}
use lib.Seq.{take-set-le, take-set-lt, drop-set-add}
use Rattle.std.proofs.lemmas.Bool.{lt-ltb, ltb-true, cases_lt, cond_both, or_parts}
use Rattle.lane.specs.declared.written.Written.{Written}
use Rattle.lane.specs.Logs.{holds, place_by, has, logged, enter, mem, no_entry, place, itself, cell_of, note}
use Rattle.lane.specs.Worlds.{stretch}

module _ {X : Type 0} (l : List X) (p : ℕ) where
  pub length_stretch : (n : ℕ) → p + n ≤ length l → length (stretch l p n) ≡ n
  length_stretch n h = rw (length-take, length-drop) (omega arith)

  -- An entry more
  pub stretch_push : (n : ℕ) (x : X) → p + n < length l → stretch (set l (p + n) x) p (suc n) ≡ stretch l p n ++ (x ∷ [])
  stretch_push n x h = rw drop-set-add (take-suc-set (drop p l) n x (rw length-drop (omega arith)))

  -- Another entry in its place
  pub stretch_set : (n i : ℕ) (x : X) → i < n → stretch (set l (p + i) x) p n ≡ set (stretch l p n) i x
  stretch_set n i x h = rw drop-set-add (take-set-lt n (drop p l) i x h)

  -- A write elsewhere
  pub stretch_other : (n q : ℕ) (x : X) → (q < p) ⊎ (p + n ≤ q) → stretch (set l q x) p n ≡ stretch l p n
  stretch_other n q x (inl h) = ap (take n) (drop-set-lt p l q x h)
  stretch_other n q x (inr h) =
      let e : q ≡ p + (q - p) = omega arith in
      subst (λ z. stretch (set l z x) p n ≡ stretch l p n) (sym e) (rw drop-set-add (take-set-le n (drop p l) (q - p) x (omega arith)))

-- The stretches of two helpers do not meet: 64 or 32 entries each
pub apart : (size j k i n : ℕ) → j ≢ k → i < size → n ≤ size → (size * j + i < size * k) ⊎ (size * k + n ≤ size * j + i)
apart size j k i n ne h l = by (cases_lt j k)
  where
    by : (j < k) ⊎ (k ≤ j) → (size * j + i < size * k) ⊎ (size * k + n ≤ size * j + i)
    by (inl a) = inl (omega (arith, mul-le-mul_left size a))
    by (inr a) = inr (let b : k < j = omega arith in omega (arith, mul-le-mul_left size b))

pub holds_place : {E : Type 0} (f : E → ℕ) (c : ℕ) (L : List E) → holds f c L ≡ ltb (place_by f c L) (length L)
holds_place f c [] = refl
holds_place f c (x ∷ L) = by (holds_place f c L) (eqb (f x) c)
  where
    by : holds f c L ≡ ltb (place_by f c L) (length L) → (r : Bool) → (r || holds f c L) ≡ ltb (cond r 0 (suc (place_by f c L))) (suc (length L))
    by ih true = sym (lt-ltb 0 (suc (length L)) (omega arith))
    by ih false = ih ∙ sym (leb-suc-suc (suc (place_by f c L)) (length L))

pub place_few : {E : Type 0} (f : E → ℕ) (c : ℕ) (L : List E) → place_by f c L ≤ length L
place_few f c [] = omega arith
place_few f c (y ∷ L) =
    let z = place_few f c L in
    cond_both (eqb (f y) c) _ _ (λ (q : ℕ). q ≤ suc (length L)) (λ _. omega arith) (λ _. omega arith)

pub enter_new : (c : ℕ) (v : ℤ) (W : List Written) → has c W ≡ false → enter c v W ≡ W ++ (record { cell = c; amount = v } ∷ [])
enter_new c v [] h = refl
enter_new c v (x ∷ W) h = let p = or_parts (eqb x.cell c) (has c W) h in rw p.0 (ap (λ z. x ∷ z) (enter_new c v W p.1))

pub enter_old : (c : ℕ) (v : ℤ) (W : List Written) → has c W ≡ true → enter c v W ≡ set W (place c W) (record { cell = c; amount = v })
enter_old c v [] h = absurd (false≢true h)
enter_old c v (x ∷ W) h = by (λ q. enter_old c v W q) (eqb x.cell c) refl
  where
    by : (has c W ≡ true → enter c v W ≡ set W (place c W) (record { cell = c; amount = v })) → (r : Bool) → eqb x.cell c ≡ r → cond r (record { cell = c; amount = v } ∷ W) (x ∷ enter c v W) ≡ set (x ∷ W) (cond r 0 (suc (place c W))) (record { cell = c; amount = v })
    by ih true e = refl
    by ih false e = ap (λ z. x ∷ z) (ih (rw e at h))

pub logged_place : (c : ℕ) (y : ℤ) (W : List Written) → has c W ≡ true → logged c y W ≡ (get_or W (place c W) no_entry).amount
logged_place c y [] h = absurd (false≢true h)
logged_place c y (x ∷ W) h = by (λ q. logged_place c y W q) (eqb x.cell c) refl
  where
    by : (has c W ≡ true → logged c y W ≡ (get_or W (place c W) no_entry).amount) → (r : Bool) → eqb x.cell c ≡ r → cond r x.amount (logged c y W) ≡ (get_or (x ∷ W) (cond r 0 (suc (place c W))) no_entry).amount
    by ih true e = refl
    by ih false e = ih (rw e at h)

-- An entry that leaves a log no longer than n lies within n
pub noted_within : (c : ℕ) (R : List ℕ) (n : ℕ) → length R ≤ n → length (note c R) ≤ n → place_by itself c R < n
noted_within c R n h l = by (mem c R) refl
  where
    by : (b : Bool) → mem c R ≡ b → place_by itself c R < n
    by true e = let q = ltb-true _ _ (sym (holds_place itself c R) ∙ e) in omega arith
    by false e =
        let q : length (R ++ (c ∷ [])) ≤ n = subst (λ b. length (cond b R (R ++ (c ∷ []))) ≤ n) e l in
        let u = length-append R (c ∷ []) in
        omega (arith, place_few itself c R)

pub entered_within : (c : ℕ) (v : ℤ) (W : List Written) (n : ℕ) → length W ≤ n → length (enter c v W) ≤ n → place_by cell_of c W < n
entered_within c v W n h l = by (has c W) refl
  where
    by : (b : Bool) → has c W ≡ b → place_by cell_of c W < n
    by true e = let q = ltb-true _ _ (sym (holds_place cell_of c W) ∙ e) in omega arith
    by false e =
        let q : length (W ++ (record { cell = c; amount = v } ∷ [])) ≤ n = subst (λ y. length y ≤ n) (enter_new c v W e) l in
        let u = length-append W (record { cell = c; amount = v } ∷ []) in
        omega (arith, place_few cell_of c W)
