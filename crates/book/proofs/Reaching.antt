-- No body at a seat ever names a cell that the book has not: seat refuses one that might, and no telling changes how far a
-- body reaches.
use Rattle.std.proofs.Common.{◌≡◌, ℕ, zero, suc, ◌≤◌, ltb, List, [], ◌∷◌, get_or, set, Some, None, Option, sym, refl, subst, arith}
use mathlib.Core.Logic.{∥∥₁_elim, ∥∥₁_map}
use native.Mathlib.Bridge.{le_prop}
use Rattle.std.proofs.lemmas.Bool.{cond_both}
use Rattle.body.specs.Meaning.{Proper}
use Rattle.body.specs.declared.body.Body.{Ghosts}
use Rattle.body.specs.declared.request.Request.{Request}
use Rattle.body.specs.declared.request.Request.TheVariants.{Read, Write, End}
use Rattle.lane.specs.declared.refusal.SeatRefusal.{SeatRefusal}
use Rattle.lane.specs.declared.seated.Seated.{Seated}
use Rattle.lane.specs.declared.told.Told.{Told}
use Rattle.lane.specs.declared.told.Told.TheVariants.{Nothing, Restarted, Handed, Taken}
use Rattle.lane.specs.Calls.{After, Opened, open_world, seat_by, seat_call, seat_refusal, can_step, step_by, step_call}
use Rattle.lane.specs.Effects.{body_after}
use Rattle.lane.specs.Narrow.{IsNarrow}
use Rattle.lane.specs.Sane.{Sane}
use Rattle.lane.specs.Worlds.{World}
use Rattle.lane.proofs.Bodies.{Laws}
use Rattle.lane.proofs.Sanity.{accepted, getD_none}
use Rattle.book.specs.declared.desk.Desk.{Desk}
use Rattle.book.specs.declared.lists.Lists.{Lists}
use Rattle.book.specs.Reaching.{ReachesWithin, AllReachWithin}
use Rattle.book.specs.Views.{bare, world}
use Rattle.book.proofs.Bounds.{few_cells}

-- A request that names a cell of a book is narrow.
narrow_below : (r : Request) (n : ℕ) → Proper n r → n ≤ 4096 → IsNarrow r
narrow_below (Read c) n p h = omega arith
narrow_below (Write c v) n p h = omega arith
narrow_below End n p h = tt

module _ {B : Type 0} (m : Ghosts B) where
  abbrev Reaching : World B → Type 0
  Reaching w = AllReachWithin m.reach w.sizes.cells w.bodies

  at_set : (n : ℕ) (l : List (Option B)) (k j : ℕ) (x : Option B) → ReachesWithin m.reach n x → ReachesWithin m.reach n (get_or l j None) → ReachesWithin m.reach n (get_or (set l k x) j None)
  at_set n [] k j x h g = g
  at_set n (y ∷ l) zero zero x h g = h
  at_set n (y ∷ l) zero (suc j) x h g = g
  at_set n (y ∷ l) (suc k) zero x h g = g
  at_set n (y ∷ l) (suc k) (suc j) x h g = at_set n l k j x h g

  -- Call by call
  seat_reaches : (w : World B) (k y t : ℕ) (b : B) → Reaching w → Reaching (seat_call m w k y t b).world
  seat_reaches w k y t b h = by (seat_refusal m w k y b) refl
    where
      by : (r : Option SeatRefusal) → seat_refusal m w k y b ≡ r → Reaching (seat_by m w k y t b r).world
      by (Some r) e = h
      by None e = λ j. at_set w.sizes.cells w.bodies k j (Some b) (accepted m w k y b e).reaches (h j)

  module _ (law : Laws m) where
    reach_after : (t : Told) (b : B) → m.reach (body_after m t b) ≡ m.reach b
    reach_after Nothing b = refl
    reach_after (Restarted n) b = (law.same_begin b).reaches
    reach_after (Handed c v) b = (law.same_told b v).reaches
    reach_after (Taken c v) b = (law.same_taken b).reaches

    step_reaches : (w : World B) (k : ℕ) → Reaching w → Reaching (step_call m w k).world
    step_reaches w k h = cond_both (ltb w.helpers k) _ _ (λ (d : After B). Reaching d.world) (λ e. h) (λ e. by (get_or w.seats k None) (get_or w.bodies k None) refl)
      where
        by : (x : Option Seated) (y : Option B) → get_or w.bodies k None ≡ y → Reaching (step_by m w k x y).world
        by None y e = h
        by (Some s) None e = h
        by (Some s) (Some b) e =
            let before : m.reach b ≤ w.sizes.cells = subst (λ x. ReachesWithin m.reach w.sizes.cells x) e (h k) in
            cond_both (can_step m w k s b) _ _ (λ (d : After B). Reaching d.world) (λ c j. at_set w.sizes.cells w.bodies k j (Some (body_after m _ b)) (subst (λ n. n ≤ w.sizes.cells) (sym (reach_after _ b)) before) (h j)) (λ c. h)

    -- What a body at a seat asks for is narrow.
    pub narrow_asks : (w : World B) → ∥ Sane w ∥₁ → ∥ Reaching w ∥₁ → (k : ℕ) (b : B) → get_or w.bodies k None ≡ Some b → IsNarrow (m.asks b)
    narrow_asks w i h k b at = narrow_below (m.asks b) (m.reach b) (law.proper b) (omega (arith, few_cells w i, reaches))
      where
        reaches : m.reach b ≤ w.sizes.cells
        reaches = ∥∥₁_elim h le_prop (λ f. subst (λ x. ReachesWithin m.reach w.sizes.cells x) at (f k))

  -- Of the calls, as the code makes them
  leads : (w w' x : World B) → w' ≡ x → (Reaching w → Reaching x) → ∥ Reaching w ∥₁ → ∥ Reaching w' ∥₁
  leads w w' x e f h = ∥∥₁_map h (λ i. subst (λ v. Reaching v) (sym e) (f i))

  module _ (d d' : Desk B) where
    pub seated_within : (k y t : ℕ) (b : B) → bare d' ≡ (seat_call m (bare d) k y t b).world → ∥ Reaching (bare d) ∥₁ → ∥ Reaching (bare d') ∥₁
    seated_within k y t b e h = leads (bare d) (bare d') _ e (seat_reaches (bare d) k y t b) h

    pub stepped_within : Laws m → (l l' : Lists) (k : ℕ) → world d' l' ≡ (step_call m (world d l) k).world → ∥ Reaching (bare d) ∥₁ → ∥ Reaching (bare d') ∥₁
    stepped_within law l l' k e h = leads (world d l) (world d' l') _ e (step_reaches law (world d l) k) h

  pub opened_within : (o : Opened) (d : Desk B) (l : Lists) → world d l ≡ open_world o → ∥ Reaching (bare d) ∥₁
  opened_within o d l e = ∣ subst (λ (w : World B). Reaching w) (sym e) (λ k. none k _ (getD_none 9 k)) ∣₁
    where
      none : (k : ℕ) (x : Option B) → x ≡ None → ReachesWithin m.reach (open_world {B = B} o).sizes.cells x
      none k x q = subst (λ y. ReachesWithin m.reach (open_world {B = B} o).sizes.cells y) (sym q) tt
