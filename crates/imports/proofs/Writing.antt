-- The lines of a written text: they have no fault, and no other postings have the same lines. Assumes nothing.
use Rattle.std.proofs.Common.{◌≡◌, ℕ, ◌<◌, ◌≤◌, List, [], ◌∷◌, ◌++◌, map, length, decimal, sym, refl, ap, ◌∙◌, ⊎_elim, append_assoc, arith, length-append}
use Rattle.std.specs.List.{flat_map, AllByRecursion}
use Rattle.std.proofs.lemmas.Fmt.{decimal_injective, length-decimal-le}
use Rattle.std.proofs.ByRecursion.{All-append}
use Rattle.money.specs.Amounts.{amount_text, Amount}
use Rattle.money.proofs.Texts.{high_decimal, high_amount, lacks_high, amount_short, amount_same}
use Rattle.imports.specs.declared.fault.LineFault.{LineFault}
use Rattle.imports.specs.declared.posting.Posting.{Posting}
use Rattle.imports.specs.declared.posting.Posting.TheVariants.{Post, Transfer}
use Rattle.imports.specs.Texts.{most_in_line, row, line, InRange}
use Rattle.money.specs.Fields.{Lacks}
use Rattle.imports.specs.Lines.{Row, rows, Fields, post, transfer, parted, Whole, IsPosting, BadCell, OneCell, AmountField, First, row_faults, line_faults}
use Rattle.imports.proofs.Cuts.{same_fields}
use Rattle.imports.proofs.FirstRow.{good_end}
use Rattle.imports.proofs.Ladders.{no_fault, SoundAmount}
use Rattle.imports.proofs.Rows.{ended, rows_ended}

-- the fields of a posting's line
abbrev fields : ℕ → Posting → Fields
fields k (Post c a) = post (decimal c) (amount_text k a)
fields k (Transfer c o a) = transfer (decimal c) (decimal o) (amount_text k a)

row_parted : (k : ℕ) (p : Posting) → row k p ≡ parted (fields k p)
row_parted k (Post c a) = refl
row_parted k (Transfer c o a) = refl

lacks_cell : (b c : ℕ) → b < 45 → c ≤ 4095 → Lacks b (decimal c)
lacks_cell b c low small = lacks_high b (decimal c) low (high_decimal c (omega arith))

lacks_amount : (b k : ℕ) (z : _) → b < 45 → Amount k z → Lacks b (amount_text k z)
lacks_amount b k z low amount = lacks_high b (amount_text k z) low (high_amount k z amount.0)

short_cell : (c : ℕ) → c ≤ 4095 → length (decimal c) ≤ 4
short_cell c small = length-decimal-le 4 c (omega arith) (omega arith) (omega arith)

module _ (k : ℕ) where
  whole_fields : (p : Posting) → InRange k p → Whole (fields k p)
  whole_fields (Post c a) h = (lacks_cell 9 c (omega arith) h.0, lacks_amount 9 k a (omega arith) h.1)
  whole_fields (Transfer c o a) h = (
    lacks_cell 9 c (omega arith) h.0,
    lacks_cell 9 o (omega arith) h.1,
    lacks_amount 9 k a (omega arith) h.3,
  )

  lacks_row : (p : Posting) → InRange k p → Lacks 10 (row k p)
  lacks_row (Post c a) h = (
    omega arith,
    (
      omega arith,
      All-append (λ x. x ≡ 10 → ⊥) (decimal c) (9 ∷ amount_text k a) (lacks_cell 10 c (omega arith) h.0)
          (omega arith, lacks_amount 10 k a (omega arith) h.1),
    ),
  )
  lacks_row (Transfer c o a) h = (
    omega arith,
    (
      omega arith,
      All-append (λ x. x ≡ 10 → ⊥) (decimal c) (9 ∷ (decimal o ++ 9 ∷ amount_text k a)) (lacks_cell 10 c (omega arith) h.0) (
        omega arith,
        All-append (λ x. x ≡ 10 → ⊥) (decimal o) (9 ∷ amount_text k a) (lacks_cell 10 o (omega arith) h.1)
            (omega arith, lacks_amount 10 k a (omega arith) h.3),
      ),
    ),
  )

  short_row : (p : Posting) → k ≤ 2 → InRange k p → length (row k p) ≤ most_in_line
  short_row (Post c a) few h =
      omega (arith, length-append (decimal c) (9 ∷ amount_text k a), short_cell c h.0, amount_short k a h.1.0)
  short_row (Transfer c o a) few h =
      omega (
        arith,
        length-append (decimal c) (9 ∷ (decimal o ++ 9 ∷ amount_text k a)),
        length-append (decimal o) (9 ∷ amount_text k a),
        short_cell c h.0,
        short_cell o h.1,
        amount_short k a h.3.0,
      )

  posting_fields : (p : Posting) → IsPosting (fields k p)
  posting_fields (Post c a) = tt
  posting_fields (Transfer c o a) = tt

  good_cells : (p : Posting) → InRange k p → BadCell (fields k p) → ⊥
  good_cells (Post c a) h bad = bad c h.0 refl
  good_cells (Transfer c o a) h bad = ⊎_elim (λ b. b c h.0 refl) (λ b. b o h.1 refl) bad

  two_cells : (p : Posting) → InRange k p → OneCell (fields k p) → ⊥
  two_cells (Post c a) h one = one
  two_cells (Transfer c o a) h one = h.2 (decimal_injective c o (omega (arith, h.0)) (omega (arith, h.1)) one)

  sound_amount : (p : Posting) → InRange k p → AmountField (SoundAmount k) (fields k p)
  sound_amount (Post c a) h = (a, h.1, refl)
  sound_amount (Transfer c o a) h = (a, h.3, refl)

  -- the line of a posting in range has no fault
  pub good_row : (p : Posting) → k ≤ 2 → InRange k p → (fault : LineFault) → First (line_faults (row_faults k) (ended (row k p))) fault → ⊥
  good_row p few h fault =
      ⊎_elim (λ bad. good_end (row k p) (short_row p few h) bad.0) (λ rest.
      no_fault k (row k p) (fields k p) (whole_fields p h) (row_parted k p) (posting_fields p) (good_cells p h) (two_cells p h) (sound_amount p h) fault rest.1)

  -- two postings in range have two lines
  same_cell : (c d : ℕ) → c ≤ 4095 → d ≤ 4095 → decimal c ≡ decimal d → c ≡ d
  same_cell c d p q e = decimal_injective c d (omega arith) (omega arith) e

  same_posting : (p q : Posting) → InRange k p → InRange k q → fields k p ≡ fields k q → p ≡ q
  same_posting (Post c a) (Post d b) g h e =
      let cell : decimal c ≡ decimal d = cc in
      let amount : amount_text k a ≡ amount_text k b = cc in
      λ i. Post (same_cell c d g.0 h.0 cell i) (amount_same k a b g.1.0 h.1.0 amount i)
  same_posting (Post c a) (Transfer d o b) g h e = let z : ◌≡◌ {A = ℕ} 0 1 = cc in absurd (omega arith)
  same_posting (Transfer c o a) (Post d b) g h e = let z : ◌≡◌ {A = ℕ} 0 1 = cc in absurd (omega arith)
  same_posting (Transfer c o a) (Transfer d n b) g h e =
      let cell : decimal c ≡ decimal d = cc in
      let other : decimal o ≡ decimal n = cc in
      let amount : amount_text k a ≡ amount_text k b = cc in
      λ i. Transfer (same_cell c d g.0 h.0 cell i) (same_cell o n g.1 h.1 other i) (amount_same k a b g.3.0 h.3.0 amount i)

  pub same_row : (p q : Posting) → InRange k p → InRange k q → row k p ≡ row k q → p ≡ q
  same_row p q g h e =
      same_posting p q g h (same_fields (fields k p) (fields k q) (whole_fields p g) (whole_fields q h) (sym (row_parted k p) ∙ e ∙ row_parted k q))

  abbrev pub posting_row : Posting → Row
  posting_row p = ended (row k p)

  pub same_rows : (ps qs : List Posting) → AllByRecursion (InRange k) ps → AllByRecursion (InRange k) qs → map posting_row ps ≡ map posting_row qs → ps ≡ qs
  same_rows [] [] g h e = refl
  same_rows [] (q ∷ qs) g h e = let z : ◌≡◌ {A = ℕ} 0 1 = cc in absurd (omega arith)
  same_rows (p ∷ ps) [] g h e = let z : ◌≡◌ {A = ℕ} 0 1 = cc in absurd (omega arith)
  same_rows (p ∷ ps) (q ∷ qs) g h e =
      let first : posting_row p ≡ posting_row q = cc in
      let rest : map posting_row ps ≡ map posting_row qs = cc in
      λ i. same_row p q g.0 h.0 (ap (λ r. r.bytes) first) i ∷ same_rows ps qs g.1 h.1 rest i

  pub rows_lines : (ps : List Posting) (rest : List ℕ) → AllByRecursion (InRange k) ps → rows (flat_map (line k) ps ++ rest) ≡ map posting_row ps ++ rows rest
  rows_lines [] rest h = refl
  rows_lines (p ∷ ps) rest h =
      ap rows (append_assoc (line k p) (flat_map (line k) ps) rest ∙ append_assoc (row k p) (10 ∷ []) (flat_map (line k) ps ++ rest))
      ∙ rows_ended (row k p) (flat_map (line k) ps ++ rest) (lacks_row p h.0)
      ∙ ap (λ rs. posting_row p ∷ rs) (rows_lines ps rest h.1)
