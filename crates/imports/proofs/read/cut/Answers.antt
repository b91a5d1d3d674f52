use Rattle.std.proofs.Common.{◌≡◌, ◌≢◌, ◌+◌, ◌<◌, ◌∷◌, ◌++◌, take, drop, Some, sym, ap, ◌∙◌, subst, arith, rules}
use Rattle.std.proofs.ByRecursion.{All-from_get_or}
use Rattle.std.proofs.lemmas.Iterator.{IsFirst-from_position, YieldsList-from_slice}
use Rattle.std.proofs.lemmas.List.{take_rest, take-append-drop, drop_more, get_or-take, length-take-le}
use borrow.Author.Tests.{tests}
use Rattle.imports.proofs.read.cut.Goals as goal

pub returns : goal.returns
returns c =
    let s = c.args.text.now in
    let i = c.in_ok-at.at in
    let first = IsFirst-from_position _ _ (Some i) (λ x. x ≡ c.args.mark) (λ x. x ≢ c.args.mark) c.in_ok-at.ensures.ran (YieldsList-from_slice s cc) (λ x q k. search (rules, tests)) (λ x q k. search (rules, tests)) in (
      All-from_get_or (λ x. x ≢ c.args.mark) (take i s) 0 (λ k h.
          let below : k < i = omega (arith, h, length-take-le i s (omega (arith, first.0))) in
          subst (λ x. x ≢ c.args.mark) (sym (get_or-take i s k 0 below)) (first.2 k 0 (omega arith) below)),
      sym (take-append-drop i s) ∙ ap (λ l. take i s ++ l) (drop_more s i 0 first.0 ∙ ap (λ b. b ∷ drop (i + 1) s) (first.1 0)) ∙ sym (ap (λ l. take i s ++ c.args.mark ∷ l) (take_rest s (i + 1))),
    )
