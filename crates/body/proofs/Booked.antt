-- An import follows the plan of its postings. Assumes nothing.
use Rattle.std.proofs.Common.{◌≡◌, ℕ, suc, ◌+◌, ◌<◌, ◌≤◌, Bool, true, false, cond, ◌&&◌, List, [], ◌∷◌, length, drop, ℤ, ◌+ℤ◌, ◌-ℤ◌, nat_abs, Some, None, sym, refl, ap, ◌∙◌, subst, arith}
use Rattle.std.specs.List.{AllByRecursion}
use Rattle.std.proofs.lemmas.List.{drop-drop}
use Rattle.std.proofs.lemmas.Int.{ints}
use Rattle.std.proofs.lemmas.Bool.{leb-true, and_parts}
use Rattle.money.specs.Amounts.{limit, within_limit}
use Rattle.imports.specs.declared.checked.Checked.{Checked}
use Rattle.imports.specs.declared.posting.Posting.{Posting}
use Rattle.imports.specs.declared.posting.Posting.TheVariants.{Post, Transfer}
use Rattle.imports.specs.Checks.{Tells}
use Rattle.imports.specs.Texts.{InRange, reach}
use Rattle.body.specs.declared.importing.Import.{Import}
use Rattle.body.specs.declared.importing.ImportStep.{ImportStep}
use Rattle.body.specs.declared.importing.ImportStep.TheVariants as steps
use Rattle.body.specs.declared.request.Request.TheVariants.{Read, Write}
use Rattle.body.specs.Imports.{post_good, transfer_good, import_plan, import_asks, import_at, import_answered, import_written, import_members, took_next, next_line, one_more, skipped, sum64, less64, after_post, after_transfer, entered}
use Rattle.body.specs.MadeImports.{unposted, MadeImport}
use Rattle.body.specs.Plans.{Plan, read, write, Follows}
use Rattle.body.specs.Reading.{postings, postings_are}
use Rattle.body.specs.Tests.{on_read, on_write}
use Rattle.body.proofs.Alone.{made}
use Rattle.body.proofs.Doing.{does_import}
use Rattle.body.specs.Imported.{next_checked, import_lawful}
use Rattle.body.proofs.Lines.{few_told}
use Rattle.body.specs.Scripted.{kept_read, kept_write}
use Rattle.body.proofs.Totalled.{saturated_fits, magnitude_of_sum}

magnitude_of_difference : (x y : ℤ) → nat_abs (x -ℤ y) ≤ nat_abs x + nat_abs y
magnitude_of_difference x y = grind (arith, ints)

-- sums of amounts within the limit fit 64 bits
sum_exact : (x a : ℤ) → within_limit x ≡ true → nat_abs a ≤ limit → sum64 x a ≡ x +ℤ a
sum_exact x a good small = saturated_fits (x +ℤ a) (omega (arith, magnitude_of_sum x a, leb-true (nat_abs x) limit good, small))

less_exact : (x a : ℤ) → within_limit x ≡ true → nat_abs a ≤ limit → less64 x a ≡ x -ℤ a
less_exact x a good small = saturated_fits (x -ℤ a) (omega (arith, magnitude_of_difference x a, leb-true (nat_abs x) limit good, small))

post_exact : (c : ℕ) (a x : ℤ) → nat_abs a ≤ limit → after_post c a x ≡ cond (post_good a x) (Some (steps.Write c (x +ℤ a))) None
post_exact c a x small = at (within_limit x) refl
  where
    at : (t : Bool) → within_limit x ≡ t → after_post c a x ≡ cond (post_good a x) (Some (steps.Write c (x +ℤ a))) None
    at true e = ap (λ z. cond (within_limit x && within_limit z) (Some (steps.Write c z)) None) (sum_exact x a e small)
    at false e = rw e refl

transfer_exact : (f t : ℕ) (a x y : ℤ) → nat_abs a ≤ limit → after_transfer f t a x y ≡ cond (transfer_good a x y) (Some (steps.WriteBoth f (x -ℤ a) t (y +ℤ a))) None
transfer_exact f t a x y small = at (within_limit x) refl (within_limit y) refl
  where
    at : (p : Bool) → within_limit x ≡ p → (q : Bool) → within_limit y ≡ q → after_transfer f t a x y ≡ cond (transfer_good a x y) (Some (steps.WriteBoth f (x -ℤ a) t (y +ℤ a))) None
    at true e true d =
        λ i. cond ((within_limit x && within_limit y) && (within_limit (less_exact x a e small i) && within_limit (sum_exact y a d small i))) (Some (steps.WriteBoth f (less_exact x a e small i) t (sum_exact y a d small i))) None
    at true e false d = rw (e, d) refl
    at false e q d = rw e refl

-- a posting that can be booked: its cells are below the reach, and its amount is within the limit
abbrev pub Bookable : ℕ → Posting → Type 0
Bookable top (Post c a) = (c < top) × (nat_abs a ≤ limit)
Bookable top (Transfer f t a) = (f < top) × (t < top) × (nat_abs a ≤ limit)

module _ (i : Checked) where
  abbrev At : Plan ℕ → Import → Type 0
  At p b = Follows import_members unposted p b

  -- a read, and what follows it
  reads : (b : Import) (c : ℕ) (next : ℤ → Plan ℕ) → import_asks b ≡ Read c → ((x : ℤ) → At (next x) (import_answered b b.step x)) → At (read c next) b
  reads b c next e rest = (e, λ x. subst (λ r. At (next x) (on_read r (import_answered b b.step x) b)) (sym e) (rest x))

  writes : (b : Import) (c : ℕ) (v : ℤ) (p : Plan ℕ) → import_asks b ≡ Write c v → At p (import_written b b.step) → At (write c v p) b
  writes b c v p e rest = (e, subst (λ r. At p (on_write r (import_written b b.step) b)) (sym e) rest)

  module _ (n u : ℕ) (ps : List Posting) (more : (v : ℕ) → v ≤ suc u → At (import_plan ps v) (next_line i n v)) (few : u < 32768) where
    abbrev state : ImportStep → Import
    state s = import_at (took_next i n u []) s

    skips : At (import_plan ps (suc u)) (skipped (state steps.Done))
    skips = subst (λ v. At (import_plan ps (suc u)) (next_line i n v)) count (more (suc u) (omega arith))
      where
        count : suc u ≡ one_more u
        count = omega arith

    last : (c : ℕ) (v : ℤ) → c < i.totals.reach → within_limit v ≡ true → At (write c v (import_plan ps u)) (state (steps.Write c v))
    last c v low good = writes (state (steps.Write c v)) c v (import_plan ps u) (kept_write i.totals.reach c v low good) (more u (omega arith))

    posts : (c : ℕ) (a x : ℤ) → c < i.totals.reach → nat_abs a ≤ limit → At (cond (post_good a x) (write c (x +ℤ a) (import_plan ps u)) (import_plan ps (suc u))) (entered (state steps.Done) (after_post c a x))
    posts c a x low small = subst (λ o. At (cond (post_good a x) (write c (x +ℤ a) (import_plan ps u)) (import_plan ps (suc u))) (entered (state steps.Done) o)) (sym (post_exact c a x small)) (at (post_good a x) refl)
      where
        at : (t : Bool) → post_good a x ≡ t → At (cond t (write c (x +ℤ a) (import_plan ps u)) (import_plan ps (suc u))) (entered (state steps.Done) (cond t (Some (steps.Write c (x +ℤ a))) None))
        at true e = last c (x +ℤ a) low (and_parts (within_limit x) (within_limit (x +ℤ a)) e).1
        at false e = skips

    transfers : (f t : ℕ) (a x y : ℤ) → f < i.totals.reach → t < i.totals.reach → nat_abs a ≤ limit → At (cond (transfer_good a x y) (write f (x -ℤ a) (write t (y +ℤ a) (import_plan ps u))) (import_plan ps (suc u))) (entered (state (steps.ReadOther f t a x)) (after_transfer f t a x y))
    transfers f t a x y low next small =
        subst (λ o. At (cond (transfer_good a x y) (write f (x -ℤ a) (write t (y +ℤ a) (import_plan ps u))) (import_plan ps (suc u))) (entered (state (steps.ReadOther f t a x)) o)) (sym (transfer_exact f t a x y small)) (at (transfer_good a x y) refl)
      where
        at : (b : Bool) → transfer_good a x y ≡ b → At (cond b (write f (x -ℤ a) (write t (y +ℤ a) (import_plan ps u))) (import_plan ps (suc u))) (entered (state (steps.ReadOther f t a x)) (cond b (Some (steps.WriteBoth f (x -ℤ a) t (y +ℤ a))) None))
        at true e =
            let new = and_parts (within_limit (x -ℤ a)) (within_limit (y +ℤ a)) (and_parts (within_limit x && within_limit y) (within_limit (x -ℤ a) && within_limit (y +ℤ a)) e).1 in
            writes (state (steps.WriteBoth f (x -ℤ a) t (y +ℤ a))) f (x -ℤ a) (write t (y +ℤ a) (import_plan ps u)) (kept_write i.totals.reach f (x -ℤ a) low new.0) (last t (y +ℤ a) next new.1)
        at false e = skips

  pub follows_lines : (ps : List Posting) (n u : ℕ) → drop n (postings i) ≡ ps → AllByRecursion (Bookable i.totals.reach) ps → u + length ps ≤ 32768 → At (import_plan ps u) (took_next i n u ps)
  follows_lines [] n u e h few = (refl, refl)
  follows_lines (Post c a ∷ qs) n u e h few =
      let after = sym (drop-drop 1 n (postings i)) ∙ ap (drop 1) e in
      let more : (v : ℕ) → v ≤ suc u → At (import_plan qs v) (next_line i (n + 1) v) = λ v le. subst (λ l. At (import_plan qs v) (took_next i (n + 1) v l)) (sym after) (follows_lines qs (n + 1) v after h.1 (omega arith)) in
      reads (took_next i n u (Post c a ∷ qs)) c (λ x. cond (post_good a x) (write c (x +ℤ a) (import_plan qs u)) (import_plan qs (suc u))) (kept_read i.totals.reach c h.0.0)
      (λ x. posts (n + 1) u qs more (omega arith) c a x h.0.0 h.0.1)
  follows_lines (Transfer f t a ∷ qs) n u e h few =
      let after = sym (drop-drop 1 n (postings i)) ∙ ap (drop 1) e in
      let more : (v : ℕ) → v ≤ suc u → At (import_plan qs v) (next_line i (n + 1) v) = λ v le. subst (λ l. At (import_plan qs v) (took_next i (n + 1) v l)) (sym after) (follows_lines qs (n + 1) v after h.1 (omega arith)) in
      reads (took_next i n u (Transfer f t a ∷ qs)) f (λ x. read t (λ y. cond (transfer_good a x y) (write f (x -ℤ a) (write t (y +ℤ a) (import_plan qs u))) (import_plan qs (suc u)))) (kept_read i.totals.reach f h.0.0)
      (λ x. reads (import_at (took_next i n u (Transfer f t a ∷ qs)) (steps.ReadOther f t a x)) t (λ y. cond (transfer_good a x y) (write f (x -ℤ a) (write t (y +ℤ a) (import_plan qs u))) (import_plan qs (suc u))) (kept_read i.totals.reach t h.0.1)
      (λ y. transfers (n + 1) u qs more (omega arith) f t a x y h.0.0 h.0.1 h.0.2))

-- postings in range can be booked
pub bookable : (k top : ℕ) (ps : List Posting) → AllByRecursion (InRange k) ps → reach ps ≤ top → AllByRecursion (Bookable top) ps
bookable k top [] h le = tt
bookable k top (Post c a ∷ ps) h le = ((omega arith, h.0.1.1), bookable k top ps h.1 (omega arith))
bookable k top (Transfer f t a ∷ ps) h le = ((omega arith, omega arith, h.0.3.1), bookable k top ps h.1 (omega arith))

-- an import at its start is made from what its text stands for
pub made_import : (i : Checked) (ps : List Posting) → Tells i ps → MadeImport ps (next_line i 0 0)
made_import i ps told =
    let same = postings_are i ps told in
    let totals = i.told ps told in
    let checked = next_checked i 0 0 in
    let starts = ap (λ j. next_line j 0 0) checked in
    let follows : Follows import_members unposted (import_plan ps 0) (next_line i 0 0) =
    subst (λ l. Follows import_members unposted (import_plan ps 0) (took_next i 0 0 l)) (sym same)
    (follows_lines i ps 0 0 same (bookable _ i.totals.reach ps told.ranges (omega (arith, totals.1))) (omega (arith, few_told i ps told))) in
    made import_members unposted import_lawful _ _ _ _ _ starts follows
    (ap (λ (j : Checked). j.totals.reach) checked ∙ totals.1)
    (ap (λ (j : Checked). j.totals.length) checked ∙ totals.2)
    (λ cells room. does_import ps cells)
