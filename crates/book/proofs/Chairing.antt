-- The transactions and the bodies at the seats, as two lists.
use Rattle.std.proofs.Common.{◌≡◌, ℕ, ◌<◌, List, length, get_or, set, None, sym, ap, ◌∙◌, refl}
use Rattle.std.specs.List.{sum_by}
use Rattle.std.proofs.lemmas.List.{get_or-map, map-set}
use Rattle.std.proofs.lemmas.List.Recursion.{is_sum_by}
use Rattle.lane.specs.Calls.{kept, kept_by}
use Rattle.book.specs.Chairs.{bodies_of, seats_of}
use Rattle.book.specs.declared.chair.Chair.{Chair}

module _ {B : Type 0} where
  pub seats_set : (l : List (Chair B)) (i : ℕ) (x : Chair B) → seats_of (set l i x) ≡ set (seats_of l) i x.seated
  seats_set l i x = map-set (λ c. c.seated) l i x

  pub bodies_set : (l : List (Chair B)) (i : ℕ) (x : Chair B) → bodies_of (set l i x) ≡ set (bodies_of l) i x.body
  bodies_set l i x = map-set (λ c. c.body) l i x

  pub body_in : (l : List (Chair B)) (i : ℕ) (x : Chair B) → i < length l → x ≡ get_or l i x → get_or (bodies_of l) i None ≡ x.body
  body_in l i x h e = get_or-map (λ c. c.body) l i x None h ∙ ap (λ (c : Chair B). c.body) (sym e)

  -- What the seats keep is a sum over them.
  pub kept_is : (l : List (Chair B)) → kept (seats_of l) ≡ sum_by (λ c. kept_by c.seated) l
  kept_is = is_sum_by (λ l. kept (seats_of l)) (λ c. kept_by c.seated) refl (λ _ _. refl)
