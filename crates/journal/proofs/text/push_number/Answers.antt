-- A number of one digit is that digit.
use Rattle.std.proofs.Common.{◌≡◌, [], ◌∷◌, ◌++◌, decimal, sym, ap, ◌∙◌, append_assoc, arith}
use Rattle.std.proofs.lemmas.Fmt.{decimal_digit}
use Rattle.journal.proofs.text.push_number.Goals as goal

pub returns-then-n-lt10-clause-bytes : goal.returns-then-n-lt10-clause-bytes
returns-then-n-lt10-clause-bytes c =
    let digit : c.from.result ∷ [] ≡ decimal c.args.n = ap (λ x. x ∷ []) c.from.ensures ∙ sym (decimal_digit c.args.n c.if-n-lt10.true) in
    c.push-then-n-lt10.ensures.ascii (omega (arith, c.from.ensures, c.if-n-lt10.true))
    ∙ ap (λ l. l ++ c.from.result ∷ []) (c.push.ensures.ascii (omega arith))
    ∙ append_assoc c.args.text.now.bytes (9 ∷ []) (c.from.result ∷ [])
    ∙ ap (λ l. c.args.text.now.bytes ++ 9 ∷ l) digit
