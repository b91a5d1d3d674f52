-- The word of the seats under way, seat by seat, and its ones.
use Rattle.std.proofs.Common.{◌≡◌, ℕ, zero, suc, ◌+◌, ◌*◌, ◌/◌, ◌%◌, ◌^◌, ◌<◌, ◌≤◌, Bool, true, false, cond, List, [], ◌∷◌, length, map, reverse, bit_or, Some, None, Option, refl, ap, ◌∙◌, arith, pow_pos}
use Rattle.std.specs.List.{fold}
use Rattle.std.proofs.lemmas.Grind.{common_steps}
use Rattle.std.proofs.lemmas.List.{length-map, reverse-append}
use Rattle.std.proofs.lemmas.List.Sums.{fold-append}
use native.Mathlib.Nat.{pow-succ'}
use lib.Count.{ones, ones_in, ones_step}
use Rattle.lane.specs.declared.seated.Seated.{Seated}
use Rattle.book.specs.Questions.{in_hand, seat_bit, seat_word, seat_count}

pub bit_one : (s : Option Seated) → seat_bit s ≤ 1
bit_one None = omega arith
bit_one (Some s) = by (in_hand s.phase)
  where
    by : (b : Bool) → cond b 1 0 ≤ 1
    by true = omega arith
    by false = omega arith

below : (n : ℕ) (l : List (Option Seated)) → length l ≤ n → seat_word l < 2 ^ n
below n [] h = pow_pos n
below zero (s ∷ l) h = absurd (omega arith)
below (suc n) (s ∷ l) h = let z = below n l (omega arith) in let e = pow-succ' 2 n in omega (arith, bit_one s)

-- The word that a fold from the last seat makes. Its ones and a seat's bit share no place.
one_more : (w b : ℕ) → w < 2 ^ 8 → b ≤ 1 → bit_or ((w * 2 ^ 1) % 2 ^ 32) b ≡ b + 2 * w
one_more w b h k = grind (arith, common_steps)

pub word_folded : {X : Type 0} (f : X → Option Seated) (l : List X) → length l ≤ 9 → fold (λ w x. bit_or ((w * 2 ^ 1) % 2 ^ 32) (seat_bit (f x))) 0 (reverse l) ≡ seat_word (map f l)
word_folded f [] h = refl
word_folded f (x ∷ l) h =
    ap (λ z. fold (λ w x. bit_or ((w * 2 ^ 1) % 2 ^ 32) (seat_bit (f x))) 0 z) (reverse-append (x ∷ []) l)
    ∙ fold-append (λ w x. bit_or ((w * 2 ^ 1) % 2 ^ 32) (seat_bit (f x))) 0 (reverse l) (x ∷ [])
    ∙ ap (λ w. bit_or ((w * 2 ^ 1) % 2 ^ 32) (seat_bit (f x))) (word_folded f l (omega arith))
    ∙ one_more (seat_word (map f l)) (seat_bit (f x)) (below 8 (map f l) (omega (arith, length-map l f))) (bit_one (f x))

ones_none : ones 0 ≡ 0
unfolding ones ones_in
ones_none = refl

-- The ones of the word are the seats under way.
pub ones_count : (l : List (Option Seated)) → ones (seat_word l) ≡ seat_count l
ones_count [] = ones_none
ones_count (s ∷ l) =
    let b = bit_one s in
    let m : (seat_bit s + 2 * seat_word l) % 2 ≡ seat_bit s = omega arith in
    let d : (seat_bit s + 2 * seat_word l) / 2 ≡ seat_word l = omega arith in
    ones_step (seat_bit s + 2 * seat_word l) ∙ ap (λ n. n + ones ((seat_bit s + 2 * seat_word l) / 2)) m ∙ ap (λ n. seat_bit s + ones n) d ∙ ap (λ n. seat_bit s + n) (ones_count l)
