-- The next line of an import's text. Assumes nothing.
use Rattle.std.proofs.Common.{◌≡◌, ℕ, ◌+◌, ◌-◌, ◌<◌, ◌≤◌, List, [], ◌∷◌, ◌++◌, length, take, drop, ℤ, Some, None, vec_items, Option, sym, refl, ap, ◌∙◌, subst, ⊎_elim, arith, length-append, length-drop}
use mathlib.Core.HLevel.{×_prop}
use mathlib.Core.Logic.{∥∥₁_elim}
use native.Mathlib.Nat.{ℕ_set}
use base.Stored.{Coded-set}
use Rattle.std.specs.List.{flat_map}
use Rattle.std.proofs.ByRecursion.{All-drop}
use Rattle.std.proofs.lemmas.List.{drop_all, drop-drop, take-append-drop, drop_at}
use Rattle.std.proofs.lemmas.Bool.{cases_lt}
use Rattle.std.proofs.lemmas.Grind.{flat_map-append}
use Rattle.std.proofs.Math.Seq.{take-add}
use Rattle.money.specs.Amounts.{places}
use Rattle.std.specs.contracts.option.Option.{the_row as option-row}
use Rattle.imports.specs.contracts.posting.Posting.{the_row as posting_row}
use Rattle.imports.specs.declared.checked.Checked.{Checked}
use Rattle.imports.specs.declared.cursor.Postings.{Postings}
use Rattle.imports.specs.declared.posting.Posting.{Posting}
use Rattle.imports.specs.Checks.{Tells}
use Rattle.imports.specs.Cursors.{Takes, Ahead}
use Rattle.imports.specs.Texts.{line, header, InRange}
use Rattle.imports.specs.Totals.{Left, Gives}
use Rattle.imports.proofs.Taking.{ahead, takes_gives, left_same}
use Rattle.imports.proofs.Sofar.{line_some}
use Rattle.body.specs.declared.importing.Import.{Import}
use Rattle.body.specs.declared.importing.ImportStep.{ImportStep}
use Rattle.body.specs.declared.importing.ImportStep.TheVariants as steps
use Rattle.body.specs.Imports.{LineRead, LineReads, after_step, entered, import_answered, import_at, took_next, next_line}
use Rattle.body.specs.Reading.{postings, postings_told, place}
use Rattle.body.specs.Imported.{same_import}

-- at the place behind some postings stand the others
left_at : (i : Checked) (ps : List Posting) (n : ℕ) → Tells i ps → Left (places i.code.letters) (vec_items i.text) (6 + length (flat_map (line (places i.code.letters)) (take n ps))) (drop n ps)
left_at i ps n s =
    let f = line (places i.code.letters) in
    let text = vec_items i.text in
    let whole = ahead _ _ ps s in
    let parts : drop 6 text ≡ flat_map f (take n ps) ++ flat_map f (drop n ps) = whole.writing ∙ ap (flat_map f) (sym (take-append-drop n ps)) ∙ flat_map-append f (take n ps) (drop n ps) in
    record {
      within = omega (arith, whole.within, length-drop 6 text, ap length parts, length-append (flat_map f (take n ps)) (flat_map f (drop n ps)));
      ranges = All-drop (InRange (places i.code.letters)) n ps whole.ranges;
      writing = sym (drop-drop (length (flat_map f (take n ps))) 6 text) ∙ ap (drop (length (flat_map f (take n ps)))) parts ∙ drop_at (flat_map f (take n ps)) (flat_map f (drop n ps)) (length (flat_map f (take n ps))) refl;
    }

-- the place behind one posting more
place_more : (i : Checked) (n : ℕ) (q : Posting) (qs : List Posting) → drop n (postings i) ≡ q ∷ qs → place i (n + 1) ≡ place i n + length (line (places i.code.letters) q)
place_more i n q qs e =
    let f = line (places i.code.letters) in
    let more : take (n + 1) (postings i) ≡ take n (postings i) ++ q ∷ [] = take-add n 1 (postings i) ∙ ap (λ l. take n (postings i) ++ take 1 l) e in
    omega (arith, ap (λ l. length (flat_map f l)) more, ap length (flat_map-append f (take n (postings i)) (q ∷ [])), length-append (flat_map f (take n (postings i))) (f q ++ []), length-append (f q) [])

option_set : IsSet (Option Posting)
option_set = Coded-set (option-row posting_row).coded

line_prop : (i : Checked) (n : ℕ) (ps : List Posting) (r : Option Posting) (after : ℕ) → IsProp (LineReads i n ps r after)
line_prop i n [] r after = option_set r None
line_prop i n (p ∷ ps) r after = ×_prop (option_set r (Some p)) (ℕ_set after (place i (n + 1)))

-- what a cursor at an import's place reads
pub line_read : (b : Import) (s t : Postings) (r : Option Posting) → s.text.now ≡ vec_items b.checked.text → s.code ≡ b.checked.code → s.at ≡ b.at → Takes s r t → LineRead b r t.at
line_read b s t r text code at takes =
    ∥∥₁_elim (postings_told i) (line_prop i n (drop n (postings i)) r t.at) (λ told.
    read (drop n (postings i)) refl (takes_gives s t r (drop n (postings i)) takes
    (left_same (drop n (postings i)) (ap (λ c. places c.letters) (sym code)) (sym text) (sym (at ∙ b.placed)) (left_at i (postings i) n told))))
  where
    i : Checked
    i = b.checked

    n : ℕ
    n = b.taken

    behind : (q : Posting) (qs : List Posting) → drop b.taken (postings b.checked) ≡ q ∷ qs → (r' : Option Posting) → r' ≡ Some q → Takes s r' t → t.at ≡ place b.checked (b.taken + 1)
    behind q qs e None f h = cc
    behind q qs e (Some p) f h =
        let same : p ≡ q = cc in
        h.moves.2
        ∙ (λ k. (at ∙ b.placed) k + h.moves.0)
        ∙ ap (λ m. place b.checked b.taken + m) (h.moves.1.1 ∙ (λ k. length (line (places (code k).letters) (same k))))
        ∙ sym (place_more b.checked b.taken q qs e)

    read : (ps : List Posting) → drop b.taken (postings b.checked) ≡ ps → Gives ps r (Ahead t) → LineReads b.checked b.taken ps r t.at
    read [] e g = g.0
    read (q ∷ qs) e g = (g.0, behind q qs e r g.0 takes)

-- an import that goes on to what follows its step, or past its line
pub goes_on : (b : Import) (s : ImportStep) (x : ℤ) → b.step ≡ s → entered b (after_step s x) ≡ import_answered b s x
goes_on b (steps.Read p) x e = refl
goes_on b (steps.ReadOther f t a h) x e = refl
goes_on b (steps.WriteBoth f l t g) x e = ap (import_at b) (sym e)
goes_on b (steps.Write c g) x e = ap (import_at b) (sym e)
goes_on b steps.Done x e = ap (import_at b) (sym e)

-- a posting was taken
pub took_some : (b was : Import) (p : Posting) (after : ℕ) → LineRead was (Some p) after → b.checked ≡ was.checked → b.taken ≡ was.taken + 1 → b.at ≡ after → b.step ≡ steps.Read p → b.unposted ≡ was.unposted → b ≡ next_line was.checked was.taken was.unposted
took_some b was p after told e f g h k = at (drop was.taken (postings was.checked)) told
  where
    at : (ps : List Posting) → LineReads was.checked was.taken ps (Some p) after → b ≡ took_next was.checked was.taken was.unposted ps
    at [] none = cc
    at (q ∷ qs) some =
        let same : p ≡ q = cc (some.0) in
        same_import b (took_next was.checked was.taken was.unposted (q ∷ qs)) e f (g ∙ some.1) (h ∙ ap steps.Read same) k

-- the place behind a posting that was taken
pub place_behind : (was : Import) (p : Posting) (after : ℕ) → LineRead was (Some p) after → after ≡ place was.checked (was.taken + 1)
place_behind was p after told = at (drop was.taken (postings was.checked)) told
  where
    at : (ps : List Posting) → LineReads was.checked was.taken ps (Some p) after → after ≡ place was.checked (was.taken + 1)
    at [] none = cc
    at (q ∷ qs) some = some.1

-- there was none
pub took_none : (b was : Import) (after : ℕ) → LineRead was None after → b.checked ≡ was.checked → b.taken ≡ was.taken → b.at ≡ was.at → b.step ≡ steps.Done → b.unposted ≡ was.unposted → b ≡ next_line was.checked was.taken was.unposted
took_none b was after told e f g h k = at (drop was.taken (postings was.checked)) told
  where
    at : (ps : List Posting) → LineReads was.checked was.taken ps None after → b ≡ took_next was.checked was.taken was.unposted ps
    at [] none = same_import b (took_next was.checked was.taken was.unposted []) e f (g ∙ was.placed) h k
    at (q ∷ qs) some = cc (some.0)

-- the place of a line tells that few were taken
few_taken : (was : Import) (p : Posting) (after : ℕ) → LineRead was (Some p) after → was.taken < length (postings was.checked)
few_taken was p after told =
    ⊎_elim (λ h. h) (λ past. let none = subst (λ ps. LineReads was.checked was.taken ps (Some p) after) (drop_all was.taken (postings was.checked) past) told in cc (none)) (cases_lt was.taken (length (postings was.checked)))

-- an import has at most as many postings as bytes
lines_long : (k : ℕ) (ps : List Posting) → length ps ≤ length (flat_map (line k) ps)
lines_long k [] = omega arith
lines_long k (p ∷ ps) = omega (arith, lines_long k ps, line_some k p, length-append (line k p) (flat_map (line k) ps))

pub few_told : (i : Checked) (ps : List Posting) → Tells i ps → length ps ≤ 32768
few_told i ps s =
    let f = line (places i.code.letters) in
    omega (arith, s.size, ap length s.writing, length-append (header i.code.letters ++ 10 ∷ []) (flat_map f ps), lines_long (places i.code.letters) ps)

few_postings : (i : Checked) → length (postings i) - 32768 ≡ 0
few_postings i = ∥∥₁_elim (postings_told i) (ℕ_set _ _) (λ s. omega (arith, few_told i (postings i) s))

pub taken_fits : (was : Import) (p : Posting) (after : ℕ) → LineRead was (Some p) after → was.taken < 32768
taken_fits was p after told = omega (arith, few_taken was p after told, few_postings was.checked)
