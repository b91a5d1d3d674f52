-- Admitted and refused texts: no text is both, and no text stands for two lists. Assumes nothing.
use Rattle.std.proofs.Common.{◌≡◌, ℕ, ◌+◌, ◌<◌, ◌≤◌, List, [], ◌∷◌, ◌++◌, map, length, drop, sym, refl, ap, ◌∙◌, subst, ⊎_elim, append_assoc, append-nil, arith, length-append}
use Rattle.std.specs.List.{flat_map, AllByRecursion}
use Rattle.std.proofs.ByRecursion.{All-weaker}
use Rattle.std.proofs.lemmas.List.{length-map}
use Rattle.money.specs.Amounts.{IsCode, places}
use Rattle.money.proofs.Codes.{places_small}
use Rattle.imports.specs.declared.fault.ImportFault.{ImportFault}
use Rattle.imports.specs.declared.fault.ImportFault.TheVariants.{Size, Line}
use Rattle.imports.specs.declared.fault.LineFault.{LineFault}
use Rattle.imports.specs.declared.posting.Posting.{Posting}
use Rattle.imports.specs.Texts.{most_bytes, header, line, written, InRange, Stands, Unambiguous}
use Rattle.money.specs.Fields.{Lacks}
use Rattle.imports.specs.Lines.{Row, rows, heading, First, code_faults, row_faults, line_faults, faults_after, Faulty}
use Rattle.imports.specs.Faults.{NamesLine, Refused}
use Rattle.imports.specs.Reading.{FirstRowFault}
use Rattle.imports.proofs.FirstRow.{good_end}
use Rattle.imports.proofs.Rows.{ended, rows_ended}
use Rattle.imports.proofs.Writing.{posting_row, rows_lines, same_rows, good_row}

module _ (code : List ℕ) (is : IsCode code) where
  lacks_code : (b : ℕ) → b < 65 → Lacks b code
  lacks_code b low = All-weaker (λ x. (65 ≤ x) × (x ≤ 90)) (λ x. x ≡ b → ⊥) (λ x h e. omega (arith, h.0, e)) code is.1

  lacks_header : Lacks 10 (header code)
  lacks_header = (omega arith, (omega arith, lacks_code 10 (omega arith)))

  good_header : (fault : LineFault) → First (line_faults code_faults (ended (header code))) fault → ⊥
  good_header fault =
      ⊎_elim (λ bad. good_end (header code) (omega (arith, is.0)) bad.0) (λ rest.
      ⊎_elim (λ none. none.0 (heading code, lacks_code 9 (omega arith), refl, is)) (λ no. no.1) rest.1)

  -- the lines of a text that begins with these postings
  pub rows_text : (ps : List Posting) (rest : List ℕ) → AllByRecursion (InRange (places code)) ps → rows (written code ps ++ rest) ≡ ended (header code) ∷ (map (posting_row (places code)) ps ++ rows rest)
  rows_text ps rest h =
      let lines = flat_map (line (places code)) ps in
      ap rows (append_assoc (header code ++ 10 ∷ []) lines rest ∙ append_assoc (header code) (10 ∷ []) (lines ++ rest))
      ∙ rows_ended (header code) (lines ++ rest) lacks_header
      ∙ ap (λ rs. ended (header code) ∷ rs) (rows_lines (places code) ps rest h)

  -- line 1 is not faulty
  pub header_sound : (text : List ℕ) (rs : List Row) → rows text ≡ ended (header code) ∷ rs → (fault : LineFault) → Faulty text 1 fault → ⊥
  header_sound text rs lines fault f = at f.before f.here f.after (sym f.lines ∙ lines) (omega (arith, f.count)) f.first
    where
      at : (before : List Row) (here : Row) (after : List Row) → before ++ here ∷ after ≡ ended (header code) ∷ rs → length before ≡ 0 → First (faults_after before here) fault → ⊥
      at [] here after e none first =
          let same : here ≡ ended (header code) = cc in
          good_header fault (subst (λ r. First (line_faults code_faults r) fault) same first)
      at (b ∷ bs) here after e none first = omega arith

stands_rows : (text code : List ℕ) (ps : List Posting) → Stands text code ps → rows text ≡ ended (header code) ∷ map (posting_row (places code)) ps
stands_rows text code ps s =
    ap rows (s.writing ∙ sym (append-nil (written code ps)))
    ∙ rows_text code s.currency ps [] s.ranges
    ∙ ap (λ rs. ended (header code) ∷ rs) (append-nil (map (posting_row (places code)) ps))

pub unambiguous : Unambiguous
unambiguous text code code' ps ps' s s' =
    let e = sym (stands_rows text code ps s) ∙ stands_rows text code' ps' s' in
    let first : ended (header code) ≡ ended (header code') = cc in
    let rest : map (posting_row (places code)) ps ≡ map (posting_row (places code')) ps' = cc in
    let same : code ≡ code' = ap (λ (r : Row). drop 2 r.bytes) first in
    let ranges = subst (λ c. AllByRecursion (InRange (places c)) ps') (sym same) s'.ranges in
    let lines = rest ∙ ap (λ c. map (posting_row (places c)) ps') (sym same) in
    (same, same_rows (places code) ps ps' s.ranges ranges lines)

-- a line among those of postings in range has no fault
among : (k : ℕ) → k ≤ 2 → (ps : List Posting) → AllByRecursion (InRange k) ps → (before : List Row) (here : Row) (after : List Row) → before ++ here ∷ after ≡ map (posting_row k) ps → (fault : LineFault) → First (line_faults (row_faults k) here) fault → ⊥
among k few [] h [] here after e fault first = let z : ◌≡◌ {A = ℕ} 0 1 = cc in omega arith
among k few [] h (b ∷ before) here after e fault first = let z : ◌≡◌ {A = ℕ} 0 1 = cc in omega arith
among k few (p ∷ ps) h [] here after e fault first =
    let same : here ≡ posting_row k p = cc in
    good_row k p few h.0 fault (subst (λ r. First (line_faults (row_faults k) r) fault) same first)
among k few (p ∷ ps) h (b ∷ before) here after e fault first =
    let rest : before ++ here ∷ after ≡ map (posting_row k) ps = cc in
    among k few ps h.1 before here after rest fault first

not_faulty : (text code : List ℕ) (ps : List Posting) → Stands text code ps → (before : List Row) (here : Row) (after : List Row) → rows text ≡ before ++ here ∷ after → (fault : LineFault) → First (faults_after before here) fault → ⊥
not_faulty text code ps s [] here after e fault first =
    let lines = sym e ∙ stands_rows text code ps s in
    let same : here ≡ ended (header code) = cc in
    good_header code s.currency fault (subst (λ r. First (line_faults code_faults r) fault) same first)
not_faulty text code ps s (b ∷ before) here after e fault first =
    let lines = sym e ∙ stands_rows text code ps s in
    let head : b ≡ ended (header code) = cc in
    let rest : before ++ here ∷ after ≡ map (posting_row (places code)) ps = cc in
    among (places code) (places_small code) ps s.ranges before here after rest fault
    (subst (λ (r : Row). First (line_faults (row_faults (places (drop 2 r.bytes))) here) fault) head first)

-- a text that stands for postings is not refused
pub not_both : (text code : List ℕ) (ps : List Posting) (fault : ImportFault) → Stands text code ps → Refused text fault → ⊥
not_both text code ps Size s bad =
    ⊎_elim
    (λ none. omega (arith, none, ap length s.writing, length-append (header code ++ 10 ∷ []) (flat_map (line (places code)) ps)))
    (λ long. omega (arith, long, s.size)) bad
not_both text code ps (Line faulty) s bad =
    let f = bad.faulty in not_faulty text code ps s f.before f.here f.after f.lines faulty.fault f.first

-- a fault of the first line of what follows some postings is a fault of the text
module _ (text code rest : List ℕ) (ps : List Posting) (is : IsCode code) (ranges : AllByRecursion (InRange (places code)) ps) (sofar : text ≡ written code ps ++ rest) (fault : LineFault) (bad : FirstRowFault (row_faults (places code)) rest fault) where
  lines : rows text ≡ ended (header code) ∷ (map (posting_row (places code)) ps ++ rows rest)
  lines = ap rows sofar ∙ rows_text code is ps rest ranges

  pub later_fault : Faulty text (length ps + 2) fault
  later_fault = record {
    before = ended (header code) ∷ map (posting_row (places code)) ps;
    here = bad.0;
    after = bad.1;
    lines = lines ∙ ap (λ rs. ended (header code) ∷ (map (posting_row (places code)) ps ++ rs)) bad.2;
    count = omega (arith, length-map ps (posting_row (places code)));
    first = bad.3;
  }

  pub names_later : 0 < length text → length text ≤ most_bytes → NamesLine text (length ps + 2) fault
  names_later some fits = record {
    some = some;
    fits = fits;
    faulty = later_fault;
    header_first = λ other f. absurd (header_sound code is text _ lines other f);
  }

-- a fault of the first line
pub names_first : (text : List ℕ) (fault : LineFault) → 0 < length text → length text ≤ most_bytes → FirstRowFault code_faults text fault → NamesLine text 1 fault
names_first text fault some fits bad = record {
  some = some;
  fits = fits;
  faulty = record { before = []; here = bad.0; after = bad.1; lines = bad.2; count = refl; first = bad.3 };
  header_first = λ other f. refl;
}
