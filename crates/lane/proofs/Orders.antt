-- Commits in their order: where a new one goes, and what it leaves as it was.
use Rattle.std.proofs.Common.{◌≡◌, ℕ, zero, suc, ◌<◌, ◌≤◌, Bool, true, false, cond, leb, List, [], ◌∷◌, ◌++◌, length, set, ℤ, sym, refl, ap, ◌∙◌, subst, arith, length-set}
use Rattle.std.proofs.lemmas.Bool.{leb-true, leb-false, le-leb, lt-leb}
use Rattle.body.specs.declared.body.Body.{Ghosts}
use Rattle.body.specs.declared.request.Request.{Request}
use Rattle.body.specs.declared.request.Request.TheVariants.{Read, Write, End}
use Rattle.body.specs.Serial.{Commit, go, alone, leaves, Agrees, insert, ordered, upto}

module _ {B : Type 0} where
  -- Every number is at most n
  abbrev pub Upto : ℕ → List (Commit B) → Type 0
  Upto n [] = Unit {0}
  Upto n (t ∷ ts) = (t.number ≤ n) × Upto n ts

  -- Every number is at least n
  abbrev From : ℕ → List (Commit B) → Type 0
  From n [] = Unit {0}
  From n (t ∷ ts) = (n ≤ t.number) × From n ts

  abbrev Sorted : List (Commit B) → Type 0
  Sorted [] = Unit {0}
  Sorted (t ∷ ts) = From t.number ts × Sorted ts

  pub upto_more : (n n' : ℕ) (ts : List (Commit B)) → n ≤ n' → Upto n ts → Upto n' ts
  upto_more n n' [] h u = tt
  upto_more n n' (t ∷ ts) h u = (omega (arith, u.0), upto_more n n' ts h u.1)

  from_less : (n n' : ℕ) (ts : List (Commit B)) → n ≤ n' → From n' ts → From n ts
  from_less n n' [] h u = tt
  from_less n n' (t ∷ ts) h u = (omega (arith, u.0), from_less n n' ts h u.1)

  from_insert : (n : ℕ) (t : Commit B) (ts : List (Commit B)) → n ≤ t.number → From n ts → From n (insert t ts)
  from_insert n t [] h u = (h, tt)
  from_insert n t (x ∷ ts) h u = by (from_insert n t ts h u.1) (leb x.number t.number)
    where
      by : From n (insert t ts) → (r : Bool) → From n (cond r (x ∷ insert t ts) (t ∷ x ∷ ts))
      by ih true = (u.0, ih)
      by ih false = (h, u)

  sorted_insert : (t : Commit B) (ts : List (Commit B)) → Sorted ts → Sorted (insert t ts)
  sorted_insert t [] s = (tt, tt)
  sorted_insert t (x ∷ ts) s = by (sorted_insert t ts s.1) (leb x.number t.number) refl
    where
      by : Sorted (insert t ts) → (r : Bool) → leb x.number t.number ≡ r → Sorted (cond r (x ∷ insert t ts) (t ∷ x ∷ ts))
      by ih true e = (from_insert x.number t ts (leb-true x.number t.number e) s.0, ih)
      by ih false e =
          let l : t.number ≤ x.number = omega (arith, leb-false x.number t.number e) in
          ((l, from_less t.number x.number ts l s.0), s)

  sorted_ordered : (ts : List (Commit B)) → Sorted (ordered ts)
  sorted_ordered [] = tt
  sorted_ordered (t ∷ ts) = sorted_insert t (ordered ts) (sorted_ordered ts)

  upto_insert : (n : ℕ) (t : Commit B) (ts : List (Commit B)) → t.number ≤ n → Upto n ts → Upto n (insert t ts)
  upto_insert n t [] h u = (h, tt)
  upto_insert n t (x ∷ ts) h u = by (upto_insert n t ts h u.1) (leb x.number t.number)
    where
      by : Upto n (insert t ts) → (r : Bool) → Upto n (cond r (x ∷ insert t ts) (t ∷ x ∷ ts))
      by ih true = (u.0, ih)
      by ih false = (h, u)

  upto_ordered : (n : ℕ) (ts : List (Commit B)) → Upto n ts → Upto n (ordered ts)
  upto_ordered n [] u = tt
  upto_ordered n (t ∷ ts) u = upto_insert n t (ordered ts) u.0 (upto_ordered n ts u.1)

  -- All of them
  pub upto_all : (n : ℕ) (ts : List (Commit B)) → Upto n ts → upto n ts ≡ ts
  upto_all n [] u = refl
  upto_all n (t ∷ ts) u = rw (le-leb t.number n u.0) (ap (λ z. t ∷ z) (upto_all n ts u.1))

  upto_none : (n k : ℕ) (ts : List (Commit B)) → n < k → From k ts → upto n ts ≡ []
  upto_none n k [] h u = refl
  upto_none n k (t ∷ ts) h u = rw (lt-leb t.number n (omega (arith, u.0))) (upto_none n k ts h u.1)

  upto_upto : (a b : ℕ) (ts : List (Commit B)) → a ≤ b → upto a (upto b ts) ≡ upto a ts
  upto_upto a b [] h = refl
  upto_upto a b (t ∷ ts) h = by (upto_upto a b ts h) (leb t.number b) refl (leb t.number a) refl
    where
      by : upto a (upto b ts) ≡ upto a ts → (r : Bool) → leb t.number b ≡ r → (s : Bool) → leb t.number a ≡ s → upto a (cond (leb t.number b) (t ∷ upto b ts) (upto b ts)) ≡ cond (leb t.number a) (t ∷ upto a ts) (upto a ts)
      by ih true r true s = rw (r, s) (ap (λ z. t ∷ z) ih)
      by ih true r false s = rw (r, s) ih
      by ih false r true s = absurd (omega (arith, leb-false t.number b r, leb-true t.number a s))
      by ih false r false s = rw (r, s) ih

  -- The first ones of the order are the order of the first ones
  first_insert : (n : ℕ) (t : Commit B) (ts : List (Commit B)) → Sorted ts → upto n (insert t ts) ≡ cond (leb t.number n) (insert t (upto n ts)) (upto n ts)
  first_insert n t [] s = refl
  first_insert n t (x ∷ ts) s = by (first_insert n t ts s.1) (leb x.number t.number) refl (leb t.number n) refl (leb x.number n) refl
    where
      by : upto n (insert t ts) ≡ cond (leb t.number n) (insert t (upto n ts)) (upto n ts) → (p : Bool) → leb x.number t.number ≡ p → (q : Bool) → leb t.number n ≡ q → (r : Bool) → leb x.number n ≡ r
          → upto n (cond (leb x.number t.number) (x ∷ insert t ts) (t ∷ x ∷ ts)) ≡ cond (leb t.number n) (insert t (cond (leb x.number n) (x ∷ upto n ts) (upto n ts))) (cond (leb x.number n) (x ∷ upto n ts) (upto n ts))
      by ih true p true q true r = rw (p, q, r, p) (ap (λ z. x ∷ z) (rw q at ih))
      by ih true p true q false r = absurd (omega (arith, leb-true x.number t.number p, leb-true t.number n q, leb-false x.number n r))
      by ih true p false q true r = rw (p, q, r) (ap (λ z. x ∷ z) (rw q at ih))
      by ih true p false q false r = rw (p, q, r) (rw q at ih)
      by ih false p true q true r = rw (p, q, r, p)
      by ih false p true q false r = rw (p, q, r, upto_none n x.number ts (leb-false x.number n r) s.0)
      by ih false p false q true r = absurd (omega (arith, leb-false x.number t.number p, leb-false t.number n q, leb-true x.number n r))
      by ih false p false q false r = rw (p, q, r)

  first_ordered : (n : ℕ) (ts : List (Commit B)) → upto n (ordered ts) ≡ ordered (upto n ts)
  first_ordered n [] = refl
  first_ordered n (t ∷ ts) = first_insert n t (ordered ts) (sorted_ordered ts) ∙ by (first_ordered n ts) (leb t.number n)
    where
      by : upto n (ordered ts) ≡ ordered (upto n ts) → (r : Bool) → cond r (insert t (upto n (ordered ts))) (upto n (ordered ts)) ≡ ordered (cond r (t ∷ upto n ts) (upto n ts))
      by ih true = rw ih
      by ih false = ih

  insert_last : (t : Commit B) (ts : List (Commit B)) → Upto t.number ts → insert t ts ≡ ts ++ (t ∷ [])
  insert_last t [] u = refl
  insert_last t (x ∷ ts) u = rw (le-leb x.number t.number u.0) (ap (λ z. x ∷ z) (insert_last t ts u.1))

module _ {B : Type 0} (m : Ghosts B) where
  leaves_push : (ts : List (Commit B)) (t : Commit B) (σ : List ℤ) → leaves m (ts ++ (t ∷ [])) σ ≡ (alone m t.body (leaves m ts σ)).cells
  leaves_push [] t σ = refl
  leaves_push (x ∷ ts) t σ = leaves_push ts t (alone m x.body σ).cells

  agrees_push : (ts : List (Commit B)) (t : Commit B) (σ : List ℤ) → Agrees m ts σ → (alone m t.body (leaves m ts σ)).handed ≡ t.handed → Agrees m (ts ++ (t ∷ [])) σ
  agrees_push [] t σ a h = (h, tt)
  agrees_push (x ∷ ts) t σ a h = (a.0, agrees_push ts t (alone m x.body σ).cells a.1 h)

  length_go : (n : ℕ) (b : B) (σ : List ℤ) → length (go m n b σ).cells ≡ length σ
  length_go zero b σ = refl
  length_go (suc n) b σ = by (m.asks b) refl (λ b' σ'. length_go n b' σ')
    where
      by : (r : Request) → m.asks b ≡ r → ((b' : B) (σ' : List ℤ) → length (go m n b' σ').cells ≡ length σ') → length (go m (suc n) b σ).cells ≡ length σ
      by (Read c) e ih = rw (e, go) (ih _ σ)
      by (Write c v) e ih = rw (e, go) (ih _ (set σ c v) ∙ length-set σ c v)
      by End e ih = rw (e, go)

  pub length_leaves : (ts : List (Commit B)) (σ : List ℤ) → length (leaves m ts σ) ≡ length σ
  length_leaves [] σ = refl
  length_leaves (t ∷ ts) σ = length_leaves ts (alone m t.body σ).cells ∙ length_go (m.left (m.begin t.body)) (m.begin t.body) σ

  -- A commit that leaves what it finds at its place changes nothing after
  leaves_insert : (t : Commit B) (ts : List (Commit B)) (σ : List ℤ) → Sorted ts → (alone m t.body (leaves m (upto t.number ts) σ)).cells ≡ leaves m (upto t.number ts) σ → leaves m (insert t ts) σ ≡ leaves m ts σ
  leaves_insert t [] σ s h = h
  leaves_insert t (x ∷ ts) σ s h = by (λ g. leaves_insert t ts (alone m x.body σ).cells s.1 g) (leb x.number t.number) refl
    where
      by : ((alone m t.body (leaves m (upto t.number ts) (alone m x.body σ).cells)).cells ≡ leaves m (upto t.number ts) (alone m x.body σ).cells → leaves m (insert t ts) (alone m x.body σ).cells ≡ leaves m ts (alone m x.body σ).cells) → (r : Bool) → leb x.number t.number ≡ r → leaves m (cond r (x ∷ insert t ts) (t ∷ x ∷ ts)) σ ≡ leaves m (x ∷ ts) σ
      by ih true e = ih (rw e at h)
      by ih false e = ap (λ z. leaves m (x ∷ ts) z) (rw (e, upto_none t.number x.number ts (leb-false x.number t.number e) s.0) at h)

  agrees_insert : (t : Commit B) (ts : List (Commit B)) (σ : List ℤ) → Sorted ts → alone m t.body (leaves m (upto t.number ts) σ) ≡ record { handed = t.handed; cells = leaves m (upto t.number ts) σ } → Agrees m ts σ → Agrees m (insert t ts) σ
  agrees_insert t [] σ s h a = (ap (λ o. o.handed) h, tt)
  agrees_insert t (x ∷ ts) σ s h a = by (λ g. agrees_insert t ts (alone m x.body σ).cells s.1 g a.1) (leb x.number t.number) refl
    where
      by : (alone m t.body (leaves m (upto t.number ts) (alone m x.body σ).cells) ≡ record { handed = t.handed; cells = leaves m (upto t.number ts) (alone m x.body σ).cells } → Agrees m (insert t ts) (alone m x.body σ).cells) → (r : Bool) → leb x.number t.number ≡ r → Agrees m (cond r (x ∷ insert t ts) (t ∷ x ∷ ts)) σ
      by ih true e = (a.0, ih (rw e at h))
      by ih false e =
          let h' : alone m t.body σ ≡ record { handed = t.handed; cells = σ } = rw (e, upto_none t.number x.number ts (leb-false x.number t.number e) s.0) at h in
          (ap (λ o. o.handed) h', subst (λ z. Agrees m (x ∷ ts) z) (sym (ap (λ o. o.cells) h')) a)

  module _ (σ : List ℤ) where
    -- The cells that the commits numbered up to n leave
    abbrev pub state : ℕ → List (Commit B) → List ℤ
    state n ts = leaves m (ordered (upto n ts)) σ

    abbrev pub full : List (Commit B) → List ℤ
    full ts = leaves m (ordered ts) σ

    pub state_full : (n : ℕ) (ts : List (Commit B)) → Upto n ts → state n ts ≡ full ts
    state_full n ts u = rw (upto_all n ts u)

    pub length_state : (n : ℕ) (ts : List (Commit B)) → length (state n ts) ≡ length σ
    length_state n ts = length_leaves (ordered (upto n ts)) σ

    pub length_full : (ts : List (Commit B)) → length (full ts) ≡ length σ
    length_full ts = length_leaves (ordered ts) σ

    -- APPENDING: a commit numbered above all others
    pub state_below : (n : ℕ) (t : Commit B) (ts : List (Commit B)) → n < t.number → state n (t ∷ ts) ≡ state n ts
    state_below n t ts h = rw (lt-leb t.number n h)

    pub full_top : (t : Commit B) (ts : List (Commit B)) → Upto t.number ts → full (t ∷ ts) ≡ (alone m t.body (full ts)).cells
    full_top t ts u = rw (insert_last t (ordered ts) (upto_ordered t.number ts u)) (leaves_push (ordered ts) t σ)

    pub agrees_top : (t : Commit B) (ts : List (Commit B)) → Upto t.number ts → Agrees m (ordered ts) σ → (alone m t.body (full ts)).handed ≡ t.handed → Agrees m (ordered (t ∷ ts)) σ
    agrees_top t ts u a h = rw (insert_last t (ordered ts) (upto_ordered t.number ts u)) (agrees_push (ordered ts) t σ a h)

    -- INSERTION: a commit that leaves the cells as it finds them
    pub full_reader : (t : Commit B) (ts : List (Commit B)) → (alone m t.body (state t.number ts)).cells ≡ state t.number ts → full (t ∷ ts) ≡ full ts
    full_reader t ts h = leaves_insert t (ordered ts) σ (sorted_ordered ts) (rw first_ordered h)

    pub agrees_reader : (t : Commit B) (ts : List (Commit B)) → alone m t.body (state t.number ts) ≡ record { handed = t.handed; cells = state t.number ts } → Agrees m (ordered ts) σ → Agrees m (ordered (t ∷ ts)) σ
    agrees_reader t ts h a = agrees_insert t (ordered ts) σ (sorted_ordered ts) (rw first_ordered h) a

    pub state_reader : (n : ℕ) (t : Commit B) (ts : List (Commit B)) → (alone m t.body (state t.number ts)).cells ≡ state t.number ts → state n (t ∷ ts) ≡ state n ts
    state_reader n t ts h = by (leb t.number n) refl
      where
        by : (r : Bool) → leb t.number n ≡ r → leaves m (ordered (cond r (t ∷ upto n ts) (upto n ts))) σ ≡ state n ts
        by true e = leaves_insert t (ordered (upto n ts)) σ (sorted_ordered (upto n ts)) (rw (first_ordered, upto_upto t.number n ts (leb-true t.number n e)) h)
        by false e = refl
