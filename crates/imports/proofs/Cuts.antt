-- The fields of a line, which it has in one way. Assumes nothing.
use Rattle.std.proofs.Common.{◌≡◌, ℕ, List, ◌∷◌, ap, arith}
use Rattle.money.proofs.Cuts.{head, tail, cut_same}
use Rattle.imports.specs.Lines.{Fields, heading, post, transfer, parted, Whole}

other_letter : {x y : ℕ} {s t : List ℕ} → (x ≡ y → ⊥) → x ∷ s ≡ y ∷ t → ⊥
other_letter n e = n (head e)

-- a line has its fields in one way
pub same_fields : (f g : Fields) → Whole f → Whole g → parted f ≡ parted g → f ≡ g
same_fields (heading c) (heading d) p q e = ap heading (tail (tail e))
same_fields (heading c) (post d b) p q e = absurd (other_letter (omega arith) e)
same_fields (heading c) (transfer d o b) p q e = absurd (other_letter (omega arith) e)
same_fields (post c a) (heading d) p q e = absurd (other_letter (omega arith) e)
same_fields (post c a) (post d b) p q e =
    let cut = cut_same 9 c d a b p.0 q.0 (tail (tail e)) in
    λ i. post (cut.0 i) (cut.1 i)
same_fields (post c a) (transfer d o b) p q e = absurd (other_letter (omega arith) e)
same_fields (transfer c o a) (heading d) p q e = absurd (other_letter (omega arith) e)
same_fields (transfer c o a) (post d b) p q e = absurd (other_letter (omega arith) e)
same_fields (transfer c o a) (transfer d n b) p q e =
    let cut = cut_same 9 c d _ _ p.0 q.0 (tail (tail e)) in
    let more = cut_same 9 o n a b p.1 q.1 cut.1 in
    λ i. transfer (cut.0 i) (more.0 i) (more.1 i)
