-- The first fault of a text's first line, from what was read of it. Assumes nothing.
use Rattle.std.proofs.Common.{◌≡◌, ℕ, ◌+◌, ◌≤◌, List, [], ◌∷◌, ◌++◌, length, drop, sym, ap, ◌∙◌, inr, ⊎_elim, append_assoc, arith}
use Rattle.std.proofs.lemmas.List.{length_push, drop_at}
use Rattle.std.proofs.lemmas.Bool.{true≢false}
use Rattle.imports.specs.declared.fault.LineFault.{LineFault}
use Rattle.imports.specs.Texts.{most_in_line}
use Rattle.money.specs.Fields.{Lacks}
use Rattle.imports.specs.Lines.{rows, Ladder, First, BadEnd}
use Rattle.imports.specs.Reading.{FirstRowFault}
use Rattle.imports.proofs.Rows.{ended, rows_ended}

-- a line that has its end and is short enough
pub good_end : (bytes : List ℕ) → length bytes ≤ most_in_line → BadEnd (ended bytes) → ⊥
good_end bytes short = ⊎_elim true≢false (λ long. omega (arith, long, short))

module _ (text bytes rest : List ℕ) (lacks : Lacks 10 bytes) (cut : text ≡ bytes ++ 10 ∷ rest) where
  pub first_row_is : rows text ≡ ended bytes ∷ rows rest
  first_row_is = ap rows cut ∙ rows_ended bytes rest lacks

  pub behind_row : text ≡ (bytes ++ 10 ∷ []) ++ drop (length bytes + 1) text
  behind_row =
      let split = cut ∙ sym (append_assoc bytes (10 ∷ []) rest) in
      let back = ap (drop (length bytes + 1)) split ∙ drop_at (bytes ++ 10 ∷ []) rest (length bytes + 1) (length_push bytes 10) in
      split ∙ ap (λ l. (bytes ++ 10 ∷ []) ++ l) (sym back)

pub said_fault : (said : List ℕ → Ladder) (text bytes : List ℕ) (fault : LineFault) → Lacks 10 bytes → length bytes ≤ most_in_line → text ≡ (bytes ++ 10 ∷ []) ++ drop (length bytes + 1) text → First (said bytes) fault → FirstRowFault said text fault
said_fault said text bytes fault lacks short cut first = (
  ended bytes,
  rows (drop (length bytes + 1) text),
  first_row_is text bytes (drop (length bytes + 1) text) lacks (cut ∙ append_assoc bytes (10 ∷ []) (drop (length bytes + 1) text)),
  inr (good_end bytes short, first),
)
