use Rattle.std.proofs.Common.{◌≡◌, length, arith, ap, ◌∙◌}
use Rattle.std.proofs.lemmas.List.{take_all, length-take-le}
use Rattle.std.proofs.lemmas.Option.{IfSome_then}
use Rattle.std.proofs.lemmas.Result.{IfOk-weaker}
use Rattle.input.proofs.read_text.Goals as goal

pub returns-clause-whole : goal.returns-clause-whole
returns-clause-whole g c =
    IfOk-weaker c.read_at_most.result _ _ (λ text h. IfSome_then (g.R.Read.remaining c.args.input.now) h (λ bytes e fits. e ∙ take_all 32769 bytes (omega (arith, fits)))) c.read_at_most.ensures.first

pub returns-clause-longer : goal.returns-clause-longer
returns-clause-longer g c =
    IfOk-weaker c.read_at_most.result _ _ (λ text h. IfSome_then (g.R.Read.remaining c.args.input.now) h (λ bytes e long. let n : length text.items ≡ 32769 = ap length e ∙ length-take-le 32769 bytes (omega (arith, long)) in omega (arith, n))) c.read_at_most.ensures.first
