use Rattle.std.proofs.Common.{◌≡◌, [], ◌∷◌, ◌++◌, length, get_or, sym, ap, ◌∙◌, subst, arith}
use Rattle.std.proofs.lemmas.Slice.Eq.{text_from_reads}
use Rattle.money.specs.Fields.{Lacks}
use Rattle.money.proofs.Cuts.{cut_same, uncut}
use Rattle.imports.proofs.Parts.{no_post, no_transfer, no_letter}
use Rattle.imports.proofs.read.read_fields.Goals as goal
use Rattle.imports.proofs.read.read_fields.Goals.{In-P, In-T, in_default-via-then-letter-lt1, in_default-via-else-letter-lt1+then-letter-lt2+in_default-1, in_default-via-else-letter-lt1+else-letter-lt2}

-- a line that begins with a P, or with a T
posted : (c : In-P) → c.args.row.now ≡ 80 ∷ 9 ∷ c.in_ok-letter.fields.now
posted c = c.in_ok-letter.ensures.1 ∙ ap (λ l. l ++ 9 ∷ c.in_ok-letter.fields.now) (text_from_reads c.in_ok-letter.letter.now (80 ∷ []) (omega arith) (omega arith, tt))

transferred : (c : In-T) → c.args.row.now ≡ 84 ∷ 9 ∷ c.in_ok-letter.fields.now
transferred c = c.in_ok-letter.ensures.1 ∙ ap (λ l. l ++ 9 ∷ c.in_ok-letter.fields.now) (text_from_reads c.in_ok-letter.letter.now (84 ∷ []) (omega arith) (omega arith, tt))

pub returns-in_err-cell-in-P : goal.returns-in_err-cell-in-P
returns-in_err-cell-in-P c =
    rw c.from_residual-in_err-cell-in-P.ensures
    (no_post _ _ (posted (goal.at.returns-in_err-cell-in-P c).In-P) (λ cell amount p q e. uncut 9 _ cell amount c.in_err-cell-in-P.ensures e))

pub returns-in_err-amount-in-P : goal.returns-in_err-amount-in-P
returns-in_err-amount-in-P c =
    let cut = c.in_ok-cell-in-P.ensures in
    rw c.from_residual-in_err-amount-in-P.ensures
    (no_post _ _ (posted (goal.at.returns-in_err-amount-in-P c).In-P) (λ cell amount p q e.
    c.in_err-amount-in-P.ensures (subst (Lacks 9) (sym (cut_same 9 _ _ _ _ cut.0 p (sym cut.1 ∙ e)).1) q)))

pub returns-in_err-cell-in-T : goal.returns-in_err-cell-in-T
returns-in_err-cell-in-T c =
    rw c.from_residual-in_err-cell-in-T.ensures
    (no_transfer _ _ (transferred (goal.at.returns-in_err-cell-in-T c).In-T) (λ cell other amount p q r e. uncut 9 _ cell _ c.in_err-cell-in-T.ensures e))

pub returns-in_err-other-in-T : goal.returns-in_err-other-in-T
returns-in_err-other-in-T c =
    let cut = c.in_ok-cell-in-T.ensures in
    rw c.from_residual-in_err-other-in-T.ensures
    (no_transfer _ _ (transferred (goal.at.returns-in_err-other-in-T c).In-T) (λ cell other amount p q r e.
    uncut 9 _ other amount c.in_err-other-in-T.ensures (cut_same 9 _ _ _ _ cut.0 p (sym cut.1 ∙ e)).1))

pub returns-in_err-amount-in-T : goal.returns-in_err-amount-in-T
returns-in_err-amount-in-T c =
    let cut = c.in_ok-cell-in-T.ensures in
    let more = c.in_ok-other-in-T.ensures in
    rw c.from_residual-in_err-amount-in-T.ensures
    (no_transfer _ _ (transferred (goal.at.returns-in_err-amount-in-T c).In-T) (λ cell other amount p q r e.
    let rest = (cut_same 9 _ _ _ _ cut.0 p (sym cut.1 ∙ e)).1 in
    c.in_err-amount-in-T.ensures (subst (Lacks 9) (sym (cut_same 9 _ _ _ _ more.0 q (sym more.1 ∙ rest)).1) r)))

pub returns-in_default : goal.returns-in_default
returns-in_default c =
    let told = c.in_ok-letter.ensures in
    elim c.in_default.branch [
      | in_default-via-then-letter-lt1 w ↦ no_letter _ _ _ told.0 told.1 (λ e. grind (arith, ap length e)) (λ e. grind (arith, ap length e)) (λ e. grind (arith, ap length e))
      | in_default-via-else-letter-lt1+then-letter-lt2+in_default-1 w ↦ no_letter _ _ _ told.0 told.1 (λ e. grind (arith, ap (λ s. get_or s 0 0) e)) (λ e. grind (arith, ap (λ s. get_or s 0 0) e)) (λ e. grind (arith, ap (λ s. get_or s 0 0) e))
      | in_default-via-else-letter-lt1+else-letter-lt2 w ↦ no_letter _ _ _ told.0 told.1 (λ e. grind (arith, ap length e)) (λ e. grind (arith, ap length e)) (λ e. grind (arith, ap length e))
    ]
