-- What the check knows of a text that it has read up to a place. Assumes nothing.
use Rattle.std.proofs.Common.{Result, Ok, Err, MatchResult, refl, ◌≡◌, ℕ, ◌+◌, ◌*◌, ◌<◌, ◌≤◌, max, List, [], ◌∷◌, ◌++◌, length, drop, sym, ap, ◌∙◌, subst, append_assoc, append-nil, arith, length-append}
use Rattle.std.specs.List.{AllByRecursion}
use Rattle.std.specs.Result.{IsErrAnd}
use Rattle.std.proofs.lemmas.Result.{err_from_is_err_and}
use Rattle.imports.specs.declared.fault.FaultyLine.{FaultyLine}
use Rattle.imports.specs.declared.fault.LineFault.{LineFault}
use Rattle.std.proofs.ByRecursion.{All-push}
use Rattle.std.proofs.lemmas.List.{flat_map_more, length_push, drop_all}
use Rattle.money.specs.Amounts.{IsCode, places}
use Rattle.imports.specs.declared.posting.Posting.{Posting}
use Rattle.imports.specs.declared.posting.Posting.TheVariants.{Post, Transfer}
use Rattle.imports.specs.declared.totals.Totals.{Totals}
use Rattle.imports.specs.Texts.{most_bytes, header, line, row, written, InRange, Stands, posting_reach, posting_length, reach, total_length}
use Rattle.imports.specs.Totals.{TotalsOf, Adds}
use Rattle.imports.specs.Reading.{Begins}
use Rattle.imports.proofs.Admitted.{unambiguous}

-- what `map_err` makes of a line's fault by naming the line
pub at_line : {T : Type 0} (line : ℕ) (read : Result T LineFault) (told : Result T FaultyLine) {Names : LineFault → FaultyLine → Type 0} → ((fault : LineFault) (faulty : FaultyLine) → Names fault faulty → (faulty.fault ≡ fault) × (faulty.line ≡ line)) → MatchResult read (λ x. told ≡ Ok x) (λ fault. IsErrAnd told (Names fault)) → MatchResult told (λ x. read ≡ Ok x) (λ faulty. (read ≡ Err faulty.fault) × (faulty.line ≡ line))
at_line line (Ok x) told names h = rw h refl
at_line {T} line (Err fault) told names h =
    let p = err_from_is_err_and told h in
    let is = names fault p.0 p.2 in
    rw p.1 (ap {B = Result T LineFault} Err (sym is.0), is.1)

-- these postings are read, and the rest of the text is not
pub record Sofar (text code rest : List ℕ) (t : Totals) : Type 0 where
  pub ps : List Posting
  pub currency : IsCode code
  pub ranges : AllByRecursion (InRange (places code)) ps
  pub sofar : text ≡ written code ps ++ rest
  pub few : length ps + length rest ≤ length text
  pub totals : TotalsOf ps t

-- one posting more at the end
reach_push : (ps : List Posting) (p : Posting) → reach (ps ++ p ∷ []) ≡ max (reach ps) (posting_reach p)
reach_push [] p = omega arith
reach_push (q ∷ ps) p = omega (arith, reach_push ps p)

total_push : (ps : List Posting) (p : Posting) → total_length (ps ++ p ∷ []) ≡ total_length ps + posting_length p
total_push [] p = omega arith
total_push (q ∷ ps) p = omega (arith, total_push ps p)

four : (p : Posting) → posting_length p ≤ 4
four (Post c a) = omega arith
four (Transfer c o a) = omega arith

-- what the totals come to is small
pub total_few : (ps : List Posting) → total_length ps ≤ 4 * length ps
total_few [] = omega arith
total_few (p ∷ ps) = omega (arith, total_few ps, four p)

pub posting_few : (p : Posting) → posting_length p ≤ 4
posting_few p = four p

pub line_some : (k : ℕ) (p : Posting) → 0 < length (line k p)
line_some k p = omega (arith, length-append (row k p) (10 ∷ []))

module _ (text code : List ℕ) where
  module _ (rest : List ℕ) (used : ℕ) (t u : Totals) (p : Posting) (old : Sofar text code rest t) (begins : Begins (places code) rest p used) (adds : Adds t p u) where
    pub one_more : Sofar text code (drop used rest) u
    one_more = record {
      ps = old.ps ++ p ∷ [];
      currency = old.currency;
      ranges = All-push (InRange (places code)) old.ps p old.ranges begins.0;
      sofar =
          old.sofar
          ∙ ap (λ s. written code old.ps ++ s) begins.2
          ∙ sym (append_assoc (written code old.ps) (line (places code) p) (drop used rest))
          ∙ ap (λ s. s ++ drop used rest) (flat_map_more (line (places code)) (header code ++ 10 ∷ []) old.ps p);
      few = omega (arith, old.few, length_push old.ps p, begins.1, line_some (places code) p, ap length begins.2, length-append (line (places code) p) (drop used rest));
      totals = (
        omega (arith, adds.counts, old.totals.0, length_push old.ps p),
        omega (arith, adds.reaches, old.totals.1, reach_push old.ps p),
        omega (arith, adds.lasts, old.totals.2, total_push old.ps p),
      );
    }

  module _ (rest : List ℕ) (t : Totals) (old : Sofar text code rest t) (end : length rest ≤ 0) (fits : length text ≤ most_bytes) where
    pub done : Stands text code old.ps
    done = record {
      currency = old.currency;
      ranges = old.ranges;
      size = fits;
      writing = old.sofar ∙ ap (λ s. written code old.ps ++ s) (drop_all 0 rest end) ∙ append-nil (written code old.ps);
    }

-- what is known of one reading is known of every
pub totals_told : (text code : List ℕ) (t : Totals) (qs : List Posting) → Stands text code qs → TotalsOf qs t → (ps : List Posting) → Stands text code ps → TotalsOf ps t
totals_told text code t qs h told ps s = subst (λ rs. TotalsOf rs t) (unambiguous text code code qs ps h s).1 told
