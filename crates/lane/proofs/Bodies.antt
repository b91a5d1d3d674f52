-- What a body's attempt was told, against the cells that it was told from: replaying it alone, and moving it to other cells.
use Rattle.std.proofs.Common.{◌≡◌, ℕ, zero, suc, ◌+◌, ◌-◌, ◌<◌, ◌≤◌, Bool, true, false, cond, eqb, List, [], ◌∷◌, ◌++◌, length, get_or, set, ℤ, pos, sym, refl, ◌∙◌, subst, append_assoc, append-nil, add-suc, suc-add, zero-add, arith, length-set, get_or-set_other, get_or-set_same}
use Rattle.std.proofs.lemmas.Bool.{eqb-true, eqb-false}
use Rattle.body.specs.Meaning.{Lawful, Proper, Same, ReadTold, WriteTaken}
use Rattle.body.specs.declared.body.Body.{Ghosts}
use Rattle.body.specs.declared.request.Request.TheVariants.{Read, Write, End}
use Rattle.body.specs.Serial.{Outcome, given, go, alone}
use Rattle.lane.specs.declared.told.Told.{Told}
use Rattle.lane.specs.declared.told.Told.TheVariants.{Nothing, Restarted, Handed, Taken}
use Rattle.lane.specs.History.{own_or, amounts}

-- Cells overlaid with the writes of an attempt
abbrev pub over : List Told → List ℤ → List ℤ
over [] σ = σ
over (t ∷ ts) σ = elim t [ Nothing ↦ over ts σ | Restarted s ↦ over ts σ | Handed c v ↦ over ts σ | Taken c v ↦ set (over ts σ) c v ]

pub length_over : (T : List Told) (σ : List ℤ) → length (over T σ) ≡ length σ
length_over [] σ = refl
length_over (Nothing ∷ ts) σ = length_over ts σ
length_over (Restarted s ∷ ts) σ = length_over ts σ
length_over (Handed c v ∷ ts) σ = length_over ts σ
length_over (Taken c v ∷ ts) σ = length-set (over ts σ) c v ∙ length_over ts σ

-- What stands in the overlaid cells is the last write, or what stood there
pub get_d_over : (T : List Told) (σ : List ℤ) (c : ℕ) → c < length σ → get_or (over T σ) c (pos 0) ≡ own_or c (get_or σ c (pos 0)) T
get_d_over [] σ c h = refl
get_d_over (Nothing ∷ ts) σ c h = get_d_over ts σ c h
get_d_over (Restarted s ∷ ts) σ c h = get_d_over ts σ c h
get_d_over (Handed d v ∷ ts) σ c h = get_d_over ts σ c h
get_d_over (Taken d v ∷ ts) σ c h = by (get_d_over ts σ c h) (eqb d c) refl
  where
    l : c < length (over ts σ)
    l = rw length_over h

    by : get_or (over ts σ) c (pos 0) ≡ own_or c (get_or σ c (pos 0)) ts → (r : Bool) → eqb d c ≡ r → get_or (set (over ts σ) d v) c (pos 0) ≡ cond (eqb d c) v (own_or c (get_or σ c (pos 0)) ts)
    by ih true e = rw (e, eqb-true d c e) (get_or-set_same (over ts σ) c v (pos 0) l)
    by ih false e = rw e (get_or-set_other (over ts σ) d c v (pos 0) (λ q. eqb-false d c e (sym q)) ∙ ih)

module _ {B : Type 0} (m : Ghosts B) where
  abbrev pub Laws : Type 0
  Laws = Lawful m.asks m.told m.taken m.begin m.left m.reach m.len

  -- b, restarted and told T, asked for just that, was handed its own last writes or what σ holds, and is b' now
  pub data Valid (σ : List ℤ) (b : B) : List Told → B → Type 0 where
    fresh : Valid σ b [] (m.begin b)
    read : {T : List Told} {b' : B} {c : ℕ} {v : ℤ} → Valid σ b T b' → m.asks b' ≡ Read c → v ≡ own_or c (get_or σ c (pos 0)) T → Valid σ b (Handed c v ∷ T) (m.told b' v)
    wrote : {T : List Told} {b' : B} {c : ℕ} {v : ℤ} → Valid σ b T b' → m.asks b' ≡ Write c v → Valid σ b (Taken c v ∷ T) (m.taken b')

  go_read : (n : ℕ) (b : B) (cs : List ℤ) (c : ℕ) → m.asks b ≡ Read c → go m (suc n) b cs ≡ given (get_or cs c (pos 0)) (go m n (m.told b (get_or cs c (pos 0))) cs)
  go_read n b cs c e = rw (e, go)

  go_write : (n : ℕ) (b : B) (cs : List ℤ) (c : ℕ) (v : ℤ) → m.asks b ≡ Write c v → go m (suc n) b cs ≡ go m n (m.taken b) (set cs c v)
  go_write n b cs c v e = rw (e, go)

  go_end : (n : ℕ) (b : B) (cs : List ℤ) → m.asks b ≡ End → go m n b cs ≡ record { handed = []; cells = cs }
  go_end zero b cs e = refl
  go_end (suc n) b cs e = rw (e, go)

  module _ (law : Laws) where
    -- What never changes has not
    pub valid_same : {σ : List ℤ} {b b' : B} {T : List Told} → Valid σ b T b' → Same m.begin m.reach m.len b b'
    valid_same {b = b} fresh = law.same_begin b
    valid_same {b = b} (read {b' = b'} {v = v} w e q) =
        let s = valid_same w in
        let t = law.same_told b' v in
        record { start = t.start ∙ s.start; reaches = t.reaches ∙ s.reaches; lasts = t.lasts ∙ s.lasts }
    valid_same {b = b} (wrote {b' = b'} w e) =
        let s = valid_same w in
        let t = law.same_taken b' in
        record { start = t.start ∙ s.start; reaches = t.reaches ∙ s.reaches; lasts = t.lasts ∙ s.lasts }

    pub reads_within : {σ : List ℤ} {b b' : B} {T : List Told} {c : ℕ} → Valid σ b T b' → m.asks b' ≡ Read c → c < m.reach b
    reads_within {b' = b'} {c = c} w e = subst (λ n. c < n) (valid_same w).reaches (subst (Proper (m.reach b')) e (law.proper b'))

    pub writes_within : {σ : List ℤ} {b b' : B} {T : List Told} {c : ℕ} {v : ℤ} → Valid σ b T b' → m.asks b' ≡ Write c v → c < m.reach b
    writes_within {b' = b'} {c = c} w e = subst (λ n. c < n) (valid_same w).reaches (subst (Proper (m.reach b')) e (law.proper b')).0

    -- Each telling leaves fewer requests to come
    pub valid_left : {σ : List ℤ} {b b' : B} {T : List Told} → Valid σ b T b' → length T + m.left b' ≤ m.left (m.begin b)
    valid_left fresh = omega arith
    valid_left (read {b' = b'} {v = v} w e q) =
        let s = valid_left w in
        let f : m.left (m.told b' v) < m.left b' = subst (ReadTold m.left b' (m.told b' v)) e (law.reads b' v) in
        omega arith
    valid_left (wrote {b' = b'} w e) =
        let s = valid_left w in
        let f : m.left (m.taken b') < m.left b' = subst (WriteTaken m.left b' (m.taken b')) e (law.writes b') in
        omega arith

    abbrev after : List ℤ → Outcome → Outcome
    after vs o = record { handed = vs ++ o.handed; cells = o.cells }

    run_valid : {σ : List ℤ} {b b' : B} {T : List Told} → Valid σ b T b' → m.reach b ≤ length σ → (n : ℕ) → go m (length T + n) (m.begin b) σ ≡ after (amounts T) (go m n b' (over T σ))
    run_valid fresh r n = rw zero-add
    run_valid {σ} {b} (read {T = T} {b' = b'} {c = c} {v = v} w e q) r n =
        let l : c < length σ = (let k = reads_within w e in omega arith) in
        let x : get_or (over T σ) c (pos 0) ≡ v = get_d_over T σ c l ∙ sym q in
        let g : go m (suc n) b' (over T σ) ≡ given v (go m n (m.told b' v) (over T σ)) = rw x at (go_read n b' (over T σ) c e) in
        rw (suc-add, ← add-suc, run_valid w r (suc n), g, append_assoc)
    run_valid {σ} {b} (wrote {T = T} {b' = b'} {c = c} {v = v} w e) r n =
        rw (suc-add, ← add-suc, run_valid w r (suc n), go_write n b' (over T σ) c v e)

    -- REPLAY: a valid attempt that has come to its end is what the body does alone
    pub replay : {σ : List ℤ} {b b' : B} {T : List Told} → Valid σ b T b' → m.reach b ≤ length σ → m.asks b' ≡ End → alone m b σ ≡ record { handed = amounts T; cells = over T σ }
    replay {σ} {b} {b'} {T} w r e =
        let k = m.left (m.begin b) - length T in
        let f : length T + k ≡ m.left (m.begin b) = (let z = valid_left w in omega arith) in
        subst (λ n. go m n (m.begin b) σ ≡ record { handed = amounts T; cells = over T σ }) f (rw (run_valid w r k, go_end k b' (over T σ) e, append-nil))
