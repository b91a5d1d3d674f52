-- Where an entry stands or goes: the place of its cell's entry, or the end of the log.
use Rattle.std.proofs.Common.{◌≡◌, ℕ, zero, suc, ◌+◌, ◌-◌, ◌<◌, ◌≤◌, min, Bool, true, false, cond, not, ◌||◌, eqb, ltb, List, [], ◌∷◌, ◌++◌, length, get_or, take, pos, Some, None, unwrap_or, sym, refl, ap, ◌∙◌, subst, arith, length-take}
use Rattle.std.specs.List.{find, position_or_len}
use Rattle.std.specs.Option.{option_map}
use Rattle.std.proofs.lemmas.Bool.{eq-eqb, ne_eqb, ltb-true, ltb-false}
use Rattle.std.proofs.lemmas.List.{take_min, get_or-append_right}
use Rattle.std.proofs.lemmas.List.Recursion.{is_position_or_len}
use Rattle.lane.specs.declared.written.Written.{Written}
use Rattle.lane.specs.Logs.{holds, has, place_by, cell_of, cells_of, logged, lookup, no_entry}
use Rattle.lane.proofs.Stretched.{holds_place, place_few, logged_place}
use Rattle.logs.specs.Entered.{found}

module _ {E : Type 0} (f : E → ℕ) (c : ℕ) (log : List E) where
  -- The first entry that tells the cell stands at its place.
  pub found_first : cond (ltb (position_or_len (λ x. eqb (f x) c) log) (length log)) (Some (position_or_len (λ x. eqb (f x) c) log)) None ≡ found f c log
  found_first = rw (sym place_is, sym (holds_place f c log))
    where
      place_is : place_by f c log ≡ position_or_len (λ x. eqb (f x) c) log
      place_is = is_position_or_len (place_by f c) (λ x. eqb (f x) c) refl
          (λ x xs. (let e : suc (place_by f c xs) ≡ 1 + place_by f c xs = omega arith in ap (λ n. cond (eqb (f x) c) 0 n) e)) log

  at_end : holds f c log ≡ false → length log ≡ place_by f c log
  at_end e = let z = ltb-false _ _ (sym (holds_place f c log) ∙ e) in let y = place_few f c log in omega arith

  pub goes_to : unwrap_or (found f c log) (length log) ≡ place_by f c log
  goes_to = by (holds f c log) refl
    where
      by : (b : Bool) → holds f c log ≡ b → unwrap_or (cond b (Some (place_by f c log)) None) (length log) ≡ place_by f c log
      by true e = refl
      by false e = at_end e

  pub is_new : eqb (place_by f c log) (length log) ≡ not (holds f c log)
  is_new = by (holds f c log) refl
    where
      by : (b : Bool) → holds f c log ≡ b → eqb (place_by f c log) (length log) ≡ not b
      by true e = ne_eqb _ _ (λ q. let z = ltb-true _ _ (sym (holds_place f c log) ∙ e) in omega arith)
      by false e = eq-eqb _ _ (sym (at_end e))

-- An entry of a log that is the front of a stretch.
module _ {E : Type 0} (f : E → ℕ) (c : ℕ) (stretch : List E) (used : ℕ) where
  pub enters_at : (end at : ℕ) → end ≡ min used (length stretch) → at ≡ unwrap_or (found f c (take end stretch)) end → (at ≡ place_by f c (take used stretch)) × (eqb at end ≡ not (holds f c (take used stretch)))
  enters_at end at e h =
      let l : take end stretch ≡ take used stretch = ap (λ n. take n stretch) e ∙ take_min used stretch in
      let n : end ≡ length (take used stretch) = e ∙ sym (length-take used stretch) in
      let p : at ≡ place_by f c (take used stretch) = h ∙ ap (λ z. unwrap_or (found f c z) end) l ∙ ap (λ z. unwrap_or (found f c (take used stretch)) z) n ∙ goes_to f c (take used stretch) in
      (p, ap (λ z. eqb z end) p ∙ ap (λ z. eqb (place_by f c (take used stretch)) z) n ∙ is_new f c (take used stretch))

-- The amount of the first entry that tells the cell.
pub amount_of_first : (c : ℕ) (log : List Written) → option_map (λ (x : Written). x.amount) (find (λ (x : Written). eqb x.cell c) log) ≡ lookup c log
amount_of_first c [] = refl
amount_of_first c (x ∷ log) = by (eqb x.cell c) (amount_of_first c log)
  where
    by : (b : Bool) → option_map (λ (x : Written). x.amount) (find (λ (x : Written). eqb x.cell c) log) ≡ lookup c log
        → option_map (λ (x : Written). x.amount) (cond b (Some x) (find (λ (x : Written). eqb x.cell c) log)) ≡ cond (b || has c log) (Some (cond b x.amount (logged c (pos 0) log))) None
    by true e = refl
    by false e = e

-- A place that was found.
pub found_at : {E : Type 0} (f : E → ℕ) (c : ℕ) (log : List E) (i : ℕ) → Some i ≡ found f c log → (i < length log) × (holds f c log ≡ true) × (place_by f c log ≡ i)
found_at f c log i e = by (holds f c log) refl e
  where
    by : (b : Bool) → holds f c log ≡ b → Some i ≡ cond b (Some (place_by f c log)) None → (i < length log) × (holds f c log ≡ true) × (place_by f c log ≡ i)
    by true h q =
        let p : place_by f c log ≡ i = cc in
        (subst (λ z. z < length log) p (ltb-true _ _ (sym (holds_place f c log) ∙ h)), h, p)
    by false h q = let z : ◌≡◌ {A = ℕ} 0 1 = cc in absurd (omega arith)

-- The amount of the entry that was found.
pub amount_at : (c : ℕ) (log : List Written) (i : ℕ) → Some i ≡ found cell_of c log → lookup c log ≡ Some (get_or log i no_entry).amount
amount_at c log i e =
    let r = found_at cell_of c log i e in
    rw r.1 (ap Some (logged_place c (pos 0) log r.1 ∙ ap (λ z. (get_or log z no_entry).amount) r.2))

-- The cells of a write log, behind those of a read log.
cell_in : (W : List Written) (i : ℕ) → get_or (cells_of W) i 0 ≡ (get_or W i no_entry).cell
cell_in [] i = refl
cell_in (x ∷ W) zero = refl
cell_in (x ∷ W) (suc i) = cell_in W i

pub cell_behind : (R : List ℕ) (W : List Written) (i : ℕ) → length R ≤ i → get_or (R ++ cells_of W) i 0 ≡ (get_or W (i - length R) no_entry).cell
cell_behind R W i h = get_or-append_right R (cells_of W) (length R) i 0 refl h ∙ cell_in W (i - length R)
