use Rattle.std.proofs.Common.{◌≡◌, ◌+◌, [], ◌∷◌, ◌++◌, length, drop, ap, ◌∙◌, arith}
use Rattle.std.proofs.lemmas.Result.{MatchResult-weaker}
use Rattle.imports.specs.Lines.{code_faults}
use Rattle.imports.proofs.FirstRow.{said_fault}
use Rattle.imports.proofs.read.read_header.Goals as goal

pub returns : goal.returns
returns c =
    let row = c.in_ok-row.ensures in
    let bytes = c.in_ok-row.row.now in
    let text = c.args.text.now in
    MatchResult-weaker c.read_heading.result c.read_heading.ensures
    (λ code h.
    let long : length bytes + 1 ≡ 6 = omega (arith, ap length h.1, h.0.0) in
    (h.0, row.2 ∙ (λ i. (h.1 i ++ 10 ∷ []) ++ drop (long i) text)))
    (λ fault first. said_fault code_faults text bytes fault row.0 row.1 row.2 first)
