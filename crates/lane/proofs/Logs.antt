-- A helper's logs against what its attempt was told.
use Rattle.std.proofs.Common.{◌≡◌, ℕ, zero, suc, ◌<◌, Bool, true, false, cond, ◌||◌, eqb, List, [], ◌∷◌, ◌++◌, length, get_or, take, set, ℤ, pos, sym, refl, ap, ◌∙◌, subst, arith, set-set}
use lib.Seq.{set_comm}
use Rattle.std.proofs.lemmas.Bool.{eqb-true, eqb-false, ne_eqb, eq-eqb, or_parts, or_left, or_right, both_ways}
use Rattle.body.specs.declared.body.Body.{Ghosts}
use Rattle.lane.specs.declared.told.Told.{Told}
use Rattle.lane.specs.declared.told.Told.TheVariants.{Nothing, Restarted, Handed, Taken}
use Rattle.lane.specs.History.{own_or}
use Rattle.lane.specs.declared.written.Written.{Written}
use Rattle.lane.specs.Logs.{enter, has, logged, mem, note}
use Rattle.lane.proofs.Bodies.{over, Valid, fresh, read, wrote}

-- The write log of an attempt
abbrev pub log : List Told → List Written
log [] = []
log (t ∷ ts) = elim t [ Nothing ↦ log ts | Restarted s ↦ log ts | Handed c v ↦ log ts | Taken c v ↦ enter c v (log ts) ]

-- Entries put into cells in their order
abbrev pub emit : List Written → List ℤ → List ℤ
emit [] σ = σ
emit (x ∷ W) σ = emit W (set σ x.cell x.amount)

-- No cell twice
abbrev pub Once : List Written → Type 0
Once [] = Unit {0}
Once (x ∷ W) = (has x.cell W ≡ false) × Once W

has_enter : (c d : ℕ) (v : ℤ) (W : List Written) → has d (enter c v W) ≡ (eqb c d || has d W)
has_enter c d v [] = refl
has_enter c d v (x ∷ W) = by (has_enter c d v W) (eqb x.cell c) refl
  where
    by : has d (enter c v W) ≡ (eqb c d || has d W) → (r : Bool) → eqb x.cell c ≡ r → has d (cond (eqb x.cell c) (record { cell = c; amount = v } ∷ W) (x ∷ enter c v W)) ≡ (eqb c d || (eqb x.cell d || has d W))
    by ih true e = rw (e, eqb-true x.cell c e) (two (eqb c d) (has d W))
      where
        two : (p q : Bool) → (p || q) ≡ (p || (p || q))
        two true q = refl
        two false q = refl
    by ih false e = rw (e, ih) (swap (eqb x.cell d) (eqb c d) (has d W))
      where
        swap : (p q r : Bool) → (p || (q || r)) ≡ (q || (p || r))
        swap true true r = refl
        swap true false r = refl
        swap false true r = refl
        swap false false r = refl

pub logged_enter : (c d : ℕ) (v y : ℤ) (W : List Written) → logged d y (enter c v W) ≡ cond (eqb c d) v (logged d y W)
logged_enter c d v y [] = refl
logged_enter c d v y (x ∷ W) = by (logged_enter c d v y W) (eqb x.cell c) refl
  where
    by : logged d y (enter c v W) ≡ cond (eqb c d) v (logged d y W) → (r : Bool) → eqb x.cell c ≡ r → logged d y (cond (eqb x.cell c) (record { cell = c; amount = v } ∷ W) (x ∷ enter c v W)) ≡ cond (eqb c d) v (cond (eqb x.cell d) x.amount (logged d y W))
    by ih true e = rw (e, eqb-true x.cell c e) (two (eqb c d))
      where
        two : (p : Bool) → cond p v (logged d y W) ≡ cond p v (cond p x.amount (logged d y W))
        two true = refl
        two false = refl
    by ih false e = rw (e, ih) (swap (eqb x.cell d) refl (eqb c d) refl)
      where
        swap : (p : Bool) → eqb x.cell d ≡ p → (q : Bool) → eqb c d ≡ q → cond p x.amount (cond q v (logged d y W)) ≡ cond q v (cond p x.amount (logged d y W))
        swap true p true q = absurd (eqb-false x.cell c e (eqb-true x.cell d p ∙ sym (eqb-true c d q)))
        swap true p false q = refl
        swap false p true q = refl
        swap false p false q = refl

pub logged_log : (c : ℕ) (y : ℤ) (T : List Told) → logged c y (log T) ≡ own_or c y T
logged_log c y [] = refl
logged_log c y (Nothing ∷ ts) = logged_log c y ts
logged_log c y (Restarted s ∷ ts) = logged_log c y ts
logged_log c y (Handed d v ∷ ts) = logged_log c y ts
logged_log c y (Taken d v ∷ ts) = logged_enter d c v y (log ts) ∙ ap (λ z. cond (eqb d c) v z) (logged_log c y ts)

-- A default that is not used does not matter
pub logged_default : (c : ℕ) (y z : ℤ) (W : List Written) → has c W ≡ true → logged c y W ≡ logged c z W
logged_default c y z [] h = absurd (both_ways true (sym h) refl)
logged_default c y z (x ∷ W) h = by (λ g. logged_default c y z W g) (eqb x.cell c) refl
  where
    by : (has c W ≡ true → logged c y W ≡ logged c z W) → (r : Bool) → eqb x.cell c ≡ r → cond (eqb x.cell c) x.amount (logged c y W) ≡ cond (eqb x.cell c) x.amount (logged c z W)
    by ih true e = rw e
    by ih false e = rw e (ih (rw e at h))

pub logged_miss : (c : ℕ) (y : ℤ) (W : List Written) → has c W ≡ false → logged c y W ≡ y
logged_miss c y [] h = refl
logged_miss c y (x ∷ W) h = rw (or_parts (eqb x.cell c) (has c W) h).0 (logged_miss c y W (or_parts (eqb x.cell c) (has c W) h).1)

once_enter : (c : ℕ) (v : ℤ) (W : List Written) → Once W → Once (enter c v W)
once_enter c v [] o = (refl, tt)
once_enter c v (x ∷ W) o = by (once_enter c v W o.1) (eqb x.cell c) refl
  where
    by : Once (enter c v W) → (r : Bool) → eqb x.cell c ≡ r → Once (cond (eqb x.cell c) (record { cell = c; amount = v } ∷ W) (x ∷ enter c v W))
    by ih true e = rw e (subst (λ d. has d W ≡ false) (eqb-true x.cell c e) o.0, o.1)
    by ih false e = rw e (has_enter c x.cell v W ∙ rw (ne_eqb c x.cell (λ q. eqb-false x.cell c e (sym q))) o.0, ih)

once_log : (T : List Told) → Once (log T)
once_log [] = tt
once_log (Nothing ∷ ts) = once_log ts
once_log (Restarted s ∷ ts) = once_log ts
once_log (Handed d v ∷ ts) = once_log ts
once_log (Taken d v ∷ ts) = once_enter d v (log ts) (once_log ts)

emit_miss : (c : ℕ) (v : ℤ) (W : List Written) (σ : List ℤ) → has c W ≡ false → emit W (set σ c v) ≡ set (emit W σ) c v
emit_miss c v [] σ h = refl
emit_miss c v (x ∷ W) σ h =
    let p = or_parts (eqb x.cell c) (has c W) h in
    rw (set_comm σ c x.cell v x.amount (λ q. eqb-false x.cell c p.0 (sym q))) (emit_miss c v W (set σ x.cell x.amount) p.1)

emit_enter : (c : ℕ) (v : ℤ) (W : List Written) (σ : List ℤ) → Once W → emit (enter c v W) σ ≡ set (emit W σ) c v
emit_enter c v [] σ o = refl
emit_enter c v (x ∷ W) σ o = by (emit_enter c v W (set σ x.cell x.amount) o.1) (eqb x.cell c) refl
  where
    by : emit (enter c v W) (set σ x.cell x.amount) ≡ set (emit W (set σ x.cell x.amount)) c v → (r : Bool) → eqb x.cell c ≡ r → emit (cond (eqb x.cell c) (record { cell = c; amount = v } ∷ W) (x ∷ enter c v W)) σ ≡ set (emit W (set σ x.cell x.amount)) c v
    by ih true e =
        let q = eqb-true x.cell c e in
        let h : has c W ≡ false = subst (λ d. has d W ≡ false) q o.0 in
        rw (e, q, emit_miss c v W σ h, emit_miss c x.amount W σ h, set-set (emit W σ) c x.amount v)
    by ih false e = rw e ih

-- What the log emits is what the attempt wrote
pub emit_log : (T : List Told) (σ : List ℤ) → emit (log T) σ ≡ over T σ
emit_log [] σ = refl
emit_log (Nothing ∷ ts) σ = emit_log ts σ
emit_log (Restarted s ∷ ts) σ = emit_log ts σ
emit_log (Handed d v ∷ ts) σ = emit_log ts σ
emit_log (Taken d v ∷ ts) σ = emit_enter d v (log ts) σ (once_log ts) ∙ ap (λ z. set z d v) (emit_log ts σ)

-- One entry more
pub emit_take : (W : List Written) (i : ℕ) (d : Written) (σ : List ℤ) → i < length W → emit (take (suc i) W) σ ≡ set (emit (take i W) σ) (get_or W i d).cell (get_or W i d).amount
emit_take [] i d σ h = absurd (omega arith)
emit_take (x ∷ W) zero d σ h = refl
emit_take (x ∷ W) (suc i) d σ h = emit_take W i d (set σ x.cell x.amount) (omega arith)

-- The read log has each cell that was handed from outside
abbrev pub Covers : List ℕ → List Told → Type 0
Covers R [] = Unit {0}
Covers R (t ∷ ts) = elim t [ Nothing ↦ Covers R ts | Restarted s ↦ Covers R ts | Handed c v ↦ (has c (log ts) ≡ false → mem c R ≡ true) × Covers R ts | Taken c v ↦ Covers R ts ]

pub covers_more : (R R' : List ℕ) (T : List Told) → ((c : ℕ) → mem c R ≡ true → mem c R' ≡ true) → Covers R T → Covers R' T
covers_more R R' [] f h = tt
covers_more R R' (Nothing ∷ ts) f h = covers_more R R' ts f h
covers_more R R' (Restarted s ∷ ts) f h = covers_more R R' ts f h
covers_more R R' (Handed d v ∷ ts) f h = (λ e. f d (h.0 e), covers_more R R' ts f h.1)
covers_more R R' (Taken d v ∷ ts) f h = covers_more R R' ts f h

mem_push : (c d : ℕ) (R : List ℕ) → mem c (R ++ (d ∷ [])) ≡ (mem c R || eqb d c)
mem_push c d [] = by (eqb d c)
  where
    by : (p : Bool) → (p || false) ≡ p
    by true = refl
    by false = refl
mem_push c d (x ∷ R) = ap (λ z. eqb x c || z) (mem_push c d R) ∙ by (eqb x c)
  where
    by : (p : Bool) → (p || (mem c R || eqb d c)) ≡ ((p || mem c R) || eqb d c)
    by true = refl
    by false = refl

pub mem_note : (c d : ℕ) (R : List ℕ) → mem c R ≡ true → mem c (note d R) ≡ true
mem_note c d R h = by (mem d R)
  where
    by : (p : Bool) → mem c (cond p R (R ++ (d ∷ []))) ≡ true
    by true = h
    by false = mem_push c d R ∙ or_left (mem c R) (eqb d c) h

pub mem_noted : (c : ℕ) (R : List ℕ) → mem c (note c R) ≡ true
mem_noted c R = by (mem c R) refl
  where
    by : (p : Bool) → mem c R ≡ p → mem c (cond p R (R ++ (c ∷ []))) ≡ true
    by true e = e
    by false e = mem_push c c R ∙ or_right (mem c R) (eqb c c) (eq-eqb c c refl)

-- Each cell of the log stands at a place
pub mem_place : (c : ℕ) (R : List ℕ) → mem c R ≡ true → (i : ℕ) × (i < length R) × (get_or R i 0 ≡ c)
mem_place c [] h = absurd (both_ways true (sym h) refl)
mem_place c (x ∷ R) h = by (λ g. mem_place c R g) (eqb x c) refl
  where
    by : (mem c R ≡ true → (i : ℕ) × (i < length R) × (get_or R i 0 ≡ c)) → (p : Bool) → eqb x c ≡ p → (i : ℕ) × (i < length (x ∷ R)) × (get_or (x ∷ R) i 0 ≡ c)
    by ih true e = (0, omega arith, eqb-true x c e)
    by ih false e = let r = ih (rw e at h) in (suc r.0, omega (arith, r.1), r.2)

module _ {B : Type 0} (m : Ghosts B) where
  -- LOCALITY: what was handed from outside stands in other cells too
  pub moved : {σ : List ℤ} {b b' : B} {T : List Told} (σ' : List ℤ) (R : List ℕ) → Covers R T → ((c : ℕ) → mem c R ≡ true → get_or σ c (pos 0) ≡ get_or σ' c (pos 0)) → Valid m σ b T b' → Valid m σ' b T b'
  moved σ' R h f fresh = fresh
  moved {σ} σ' R h f (read {T = T} {c = c} w e q) = read (moved σ' R h.1 f w) e (q ∙ by (has c (log T)) refl)
    where
      by : (p : Bool) → has c (log T) ≡ p → own_or c (get_or σ c (pos 0)) T ≡ own_or c (get_or σ' c (pos 0)) T
      by true p = sym (logged_log c (get_or σ c (pos 0)) T) ∙ logged_default c (get_or σ c (pos 0)) (get_or σ' c (pos 0)) (log T) p ∙ logged_log c (get_or σ' c (pos 0)) T
      by false p = ap (λ z. own_or c z T) (f c (h.0 p))
  moved σ' R h f (wrote w e) = wrote (moved σ' R h f w) e
