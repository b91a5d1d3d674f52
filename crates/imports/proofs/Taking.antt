-- One posting from the front of those that a text still has. Assumes nothing.
use Rattle.std.proofs.Common.{Result, Ok, Err, MatchResult, ◌≡◌, ℕ, ◌+◌, ◌≤◌, List, [], ◌∷◌, ◌++◌, length, drop, Some, None, Option, sym, refl, ap, ◌∙◌, subst, append-nil, arith, length-append, length-drop}
use mathlib.Core.Path.{subst₃}
use Rattle.std.specs.Result.{result_ok}
use Rattle.std.proofs.lemmas.Option.{none-some}
use Rattle.std.specs.List.{flat_map}
use Rattle.std.proofs.lemmas.List.{append_cancel_left, drop-drop, drop_at}
use Rattle.money.specs.Amounts.{places}
use Rattle.imports.specs.declared.fault.LineFault.{LineFault}
use Rattle.imports.specs.declared.posting.Posting.{Posting}
use Rattle.imports.specs.Texts.{header, line, InRange, Stands}
use Rattle.imports.specs.declared.cursor.Postings.{Postings}
use Rattle.imports.specs.Cursors.{Takes, Ahead}
use Rattle.imports.specs.Totals.{Left, Gives}
use Rattle.imports.specs.Lines.{Row, rows, First, row_faults, line_faults}
use Rattle.imports.specs.Reading.{FirstRowFault, Begins}
use Rattle.imports.proofs.Sofar.{line_some}
use Rattle.imports.proofs.Writing.{posting_row, rows_lines, same_row, good_row}

-- what is known of a fault, where nothing was read
pub at_fault : {T E : Type 0} (r : Result T E) (P : T → Type 0) (Q : E → Type 0) → result_ok r ≡ None → MatchResult r P Q → (fault : E) × Q fault
at_fault (Ok x) P Q none h = absurd (none-some x (sym none))
at_fault (Err fault) P Q none h = (fault, h)

-- what is left after a posting's line, in bytes
pub begins_within : (k : ℕ) (text : List ℕ) (at used : ℕ) (p : Posting) → at ≤ length text → Begins k (drop at text) p used → at + used ≤ length text
begins_within k text at used p within b =
    omega (arith, b.1, ap length b.2, length-append (line k p) (drop used (drop at text)), length-drop at text)

module _ (k : ℕ) (text : List ℕ) (at : ℕ) where
  rows_front : (x : Posting) (s : List ℕ) → InRange k x → rows (line k x ++ s) ≡ posting_row k x ∷ rows s
  rows_front x s range = ap (λ l. rows (l ++ s)) (sym (append-nil (line k x))) ∙ rows_lines k (x ∷ []) s (range, tt)

  -- no posting begins where the first line is faulty
  pub none_at_fault : k ≤ 2 → (fault : LineFault) → FirstRowFault (row_faults k) (drop at text) fault → (p : Posting) (n : ℕ) → Begins k (drop at text) p n → ⊥
  none_at_fault few fault bad p n b =
      let lines = sym bad.2 ∙ ap rows b.2 ∙ rows_front p (drop n (drop at text)) b.0 in
      let same : bad.0 ≡ posting_row k p = cc in
      good_row k p few b.0 fault (subst (λ r. First (line_faults (row_faults k) r) fault) same bad.3)

  -- the first of the postings ahead
  begins_first : (q : Posting) (qs : List Posting) → Left k text at (q ∷ qs) → Begins k (drop at text) q (length (line k q))
  begins_first q qs h = (
    h.ranges.0,
    refl,
    h.writing ∙ ap (λ s. line k q ++ s) (sym (ap (drop (length (line k q))) h.writing ∙ drop_at (line k q) (flat_map (line k) qs) (length (line k q)) refl)),
  )

  gives_one : (p : Posting) (used : ℕ) → Begins k (drop at text) p used → (ps : List Posting) → Left k text at ps → Gives ps (Some p) (Left k text (at + used))
  gives_one p used b [] h = absurd (omega (arith, ap length b.2, ap length h.writing, length-append (line k p) (drop used (drop at text)), line_some k p))
  gives_one p used b (q ∷ qs) h =
      let rest = drop used (drop at text) in
      let both = sym b.2 ∙ h.writing in
      let lines = sym (rows_front p rest b.0) ∙ ap rows both ∙ rows_front q (flat_map (line k) qs) h.ranges.0 in
      let same_line : posting_row k p ≡ posting_row k q = cc in
      let same = same_row k p q b.0 h.ranges.0 (ap (λ (r : Row). r.bytes) same_line) in
      let after : rest ≡ flat_map (line k) qs = append_cancel_left (line k p) rest (flat_map (line k) qs) (both ∙ ap (λ x. line k x ++ flat_map (line k) qs) (sym same)) in (
        ap {B = Option Posting} Some same,
        record {
          within = begins_within k text at used p h.within b;
          ranges = h.ranges.1;
          writing = sym (drop-drop used at text) ∙ after;
        },
      )

-- what is left of one text is left of the same text
pub left_same : {k l : ℕ} {x y : List ℕ} {i j : ℕ} (ps : List Posting) → k ≡ l → x ≡ y → i ≡ j → Left k x i ps → Left l y j ps
left_same ps p q r = subst₃ (λ k x i. Left k x i ps) p q r

-- a cursor gives the postings ahead of it one by one
pub takes_gives : (s t : Postings) (r : Option Posting) (ps : List Posting) → Takes s r t → Ahead s ps → Gives ps r (Ahead t)
takes_gives s t None [] h a = (refl, left_same [] (ap (λ c. places c.letters) (sym h.same_code)) (sym h.same_text) (sym h.moves.1) a)
takes_gives s t None (q ∷ qs) h a = absurd (h.moves.0 q _ (begins_first _ _ _ q qs a))
takes_gives s t (Some p) ps h a =
    moved ps (gives_one _ _ _ p h.moves.0 h.moves.1 ps a)
  where
    moved : (ps : List Posting) → Gives ps (Some p) (Left (places s.code.letters) s.text.now (s.at + h.moves.0)) → Gives ps (Some p) (Ahead t)
    moved [] g = let z : ◌≡◌ {A = ℕ} 0 1 = cc g.0 in absurd (omega arith)
    moved (q ∷ qs) g = (g.0, left_same qs (ap (λ c. places c.letters) (sym h.same_code)) (sym h.same_text) (sym h.moves.2) g.1)

-- behind the header stand the lines of the postings
pub ahead : (text code : List ℕ) (ps : List Posting) → Stands text code ps → Left (places code) text 6 ps
ahead text code ps s =
    let long : length (header code ++ 10 ∷ []) ≡ 6 = omega (arith, length-append (header code) (10 ∷ []), s.currency.0) in
    record {
      within = omega (arith, ap length s.writing, length-append (header code ++ 10 ∷ []) (flat_map (line (places code)) ps), long);
      ranges = s.ranges;
      writing = ap (drop 6) s.writing ∙ drop_at (header code ++ 10 ∷ []) (flat_map (line (places code)) ps) 6 long;
    }
