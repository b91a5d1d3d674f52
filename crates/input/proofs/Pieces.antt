-- What is kept of an input that is read piece by piece.
use Rattle.std.proofs.Common.{◌≡◌, ℕ, ◌-◌, ◌<◌, ◌≤◌, min, List, [], ◌++◌, length, take, None, Some, IfSome, sym, refl, ap, ◌∙◌, ⊎_elim, arith, append_assoc, append-nil, length-take}
use Rattle.std.proofs.Math.Seq.{take-append-add}
use Rattle.std.proofs.lemmas.List.{take_all, take-take, take-append-le, length-take-le}
use Rattle.std.proofs.lemmas.Bool.{cases_lt}
use Rattle.std.specs.Io.KnownBytes.{Consumes, IsAtEnd}
use Rattle.std.specs.declared.option.Option.{Option}

-- A piece is consumed, and then another.
pub consumed_more : (a b c : Option (List ℕ)) (bs cs : List ℕ) → Consumes a b bs → Consumes b c cs → Consumes a c (bs ++ cs)
consumed_more None b c bs cs p q = tt
consumed_more (Some x) None c bs cs p q = absurd p
consumed_more (Some x) (Some y) None bs cs p q = absurd q
consumed_more (Some x) (Some y) (Some z) bs cs p q = p ∙ ap (λ l. bs ++ l) q ∙ sym (append_assoc bs cs z)

-- Nothing is consumed yet.
pub consumed_none : (a : Option (List ℕ)) → Consumes a a []
consumed_none None = tt
consumed_none (Some x) = refl

module _ (most : ℕ) (bs text : List ℕ) (kept : text ≡ take most bs) where
  -- All was consumed.
  pub kept_at_end : (a b : Option (List ℕ)) → Consumes a b bs → IsAtEnd b → IfSome a (λ bytes. text ≡ take most bytes)
  kept_at_end None b p q = tt
  kept_at_end (Some x) None p q = absurd p
  kept_at_end (Some x) (Some y) p q = kept ∙ ap (take most) (sym (p ∙ ap (λ l. bs ++ l) q ∙ append-nil bs))

  -- As much was consumed as is wanted.
  pub kept_full : most ≤ length bs → (a b : Option (List ℕ)) → Consumes a b bs → IfSome a (λ bytes. text ≡ take most bytes)
  kept_full full None b p = tt
  kept_full full (Some x) None p = absurd p
  kept_full full (Some x) (Some y) p = kept ∙ sym (ap (take most) p ∙ take-append-le most bs y full)

  -- Of a piece no more is kept than is wanted still.
  pub kept_more : (n : ℕ) (piece : List ℕ) → text ++ take (min n (most - length text)) piece ≡ take most (bs ++ take n piece)
  kept_more n piece = ⊎_elim room full (cases_lt (length bs) most)
    where
      left : ℕ
      left = most - length bs

      cut : take left (take n piece) ≡ take (min n left) piece
      cut = ⊎_elim
          (λ few. take_all left (take n piece) (omega (arith, few, length-take n piece)) ∙ ap (λ m. take m piece) (omega (arith, few)))
          (λ many. take-take left n piece many ∙ ap (λ m. take m piece) (omega (arith, many)))
          (cases_lt n left)

      room : length bs < most → text ++ take (min n (most - length text)) piece ≡ take most (bs ++ take n piece)
      room h =
          ap (λ t. t ++ take (min n (most - length t)) piece) (kept ∙ take_all most bs (omega (arith, h)))
          ∙ ap (λ l. bs ++ l) (sym cut)
          ∙ sym (take-append-add bs (take n piece) left)
          ∙ ap (λ m. take m (bs ++ take n piece)) (omega (arith, h))

      full : most ≤ length bs → text ++ take (min n (most - length text)) piece ≡ take most (bs ++ take n piece)
      full h =
          let long : length text ≡ most = ap length kept ∙ length-take-le most bs h in
          let none : min n (most - length text) ≡ 0 = omega (arith, long) in
          ap (λ m. text ++ take m piece) none
          ∙ append-nil text
          ∙ kept
          ∙ sym (take-append-le most bs (take n piece) h)
