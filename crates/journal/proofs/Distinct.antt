-- Two different records have different lines. Assumes nothing.
use Rattle.std.proofs.Common.{◌≡◌, ℕ, ◌^◌, ◌<◌, List, [], ◌∷◌, ◌++◌, ℤ, decimal, arith}
use lib.Signed.{mag}
use Rattle.std.specs.Fmt.{signed_decimal}
use Rattle.std.proofs.lemmas.Fmt.{decimal_injective, signed_decimal_injective}
use Rattle.money.proofs.Cuts.{head, tail, cut_same}
use Rattle.money.proofs.Texts.{High, high_decimal, high_signed, lacks_high}
use Rattle.journal.specs.declared.record.Record.TheVariants.{Change, Commit}
use Rattle.journal.specs.Lines.{Distinct}

-- the first of the fields that are parted by a byte below the digits, and what follows
field_first : (b : ℕ) (x y s t : List ℕ) → b < 45 → High x → High y → x ++ b ∷ s ≡ y ++ b ∷ t → (x ≡ y) × (s ≡ t)
field_first b x y s t low p q = cut_same b x y s t (lacks_high b x low p) (lacks_high b y low q)

number_first : (b m n : ℕ) (s t : List ℕ) → b < 45 → m < 2 ^ 32 → n < 2 ^ 32 → decimal m ++ b ∷ s ≡ decimal n ++ b ∷ t → (m ≡ n) × (s ≡ t)
number_first b m n s t low p q e =
    let first = field_first b _ _ s t low (high_decimal m (omega arith)) (high_decimal n (omega arith)) e in
    (decimal_injective m n (omega arith) (omega arith) first.0, first.1)

amount_first : (b : ℕ) (y z : ℤ) (s t : List ℕ) → b < 45 → mag y < 2 ^ 63 → mag z < 2 ^ 63 → signed_decimal y ++ b ∷ s ≡ signed_decimal z ++ b ∷ t → (y ≡ z) × (s ≡ t)
amount_first b y z s t low p q e =
    let first = field_first b _ _ s t low (high_signed y p) (high_signed z q) e in
    (signed_decimal_injective y z p q first.0, first.1)

pub distinct : Distinct
distinct (Change m c y) (Change n d z) p q e =
    let number = number_first 9 m n _ _ (omega arith) p.0 q.0 (tail (tail e)) in
    let cell = number_first 9 c d _ _ (omega arith) p.1 q.1 number.1 in
    let amount = amount_first 10 y z [] [] (omega arith) p.2 q.2 cell.1 in
    λ i. Change (number.0 i) (cell.0 i) (amount.0 i)
distinct (Change m c y) (Commit n s k t o) p q e = absurd (omega (arith, head e))
distinct (Commit n s k t o) (Change m c y) p q e = absurd (omega (arith, head e))
distinct (Commit m a b c d) (Commit n s k t o) p q e =
    let number = number_first 9 m n _ _ (omega arith) p.0 q.0 (tail (tail e)) in
    let seat = number_first 9 a s _ _ (omega arith) p.1 q.1 number.1 in
    let kind = number_first 9 b k _ _ (omega arith) p.2 q.2 seat.1 in
    let tag = number_first 9 c t _ _ (omega arith) p.3 q.3 kind.1 in
    let count = number_first 10 d o [] [] (omega arith) p.4 q.4 tag.1 in
    λ i. Commit (number.0 i) (seat.0 i) (kind.0 i) (tag.0 i) (count.0 i)
