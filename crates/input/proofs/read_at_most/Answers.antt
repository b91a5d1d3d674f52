use Rattle.std.proofs.Common.{rules, ◌≡◌, ◌-◌, min, [], ◌++◌, length, take, sym, refl, ap, ◌∙◌, arith, length-append, length-take}
use Rattle.std.proofs.lemmas.List.{take_all, append-nil}
use Rattle.input.proofs.Pieces.{consumed_more, consumed_none, kept_at_end, kept_full, kept_more}
use Rattle.input.proofs.read_at_most.Goals as goal

pub loop-init : goal.loop-init
loop-init g c = (omega (arith, c.new-text.ensures.len), refl, ([], consumed_none _, c.new-text.ensures.items ∙ sym (take_all c.args.most [] (omega arith)), omega arith))

pub returns-then-n-eq0-clause-first : goal.returns-then-n-eq0-clause-first
returns-then-n-eq0-clause-first g c =
    let i = c.loop.invariant.2 in
    let none : take c.in_ok-n.n c.read.new.buf ≡ [] = ap (λ n. take n c.read.new.buf) c.if-n-eq0.true in
    let all : i.0 ++ take c.in_ok-n.n c.read.new.buf ≡ i.0 = ap (λ l. i.0 ++ l) none ∙ append-nil i.0 in
    kept_at_end c.args.most (i.0 ++ take c.in_ok-n.n c.read.new.buf) c.loop.text.items (i.2 ∙ ap (take c.args.most) (sym all)) _ _ (consumed_more _ _ _ i.0 _ i.1 c.in_ok-n.ensures.bytes.0) (c.in_ok-n.ensures.bytes.1 c.if-n-eq0.true (omega (arith, c.loop.invariant.1)))

pub loop-preserved : goal.loop-preserved
loop-preserved g c =
    let i = c.loop.invariant.2 in
    let piece = take c.in_ok-n.n c.read.new.buf in
    let wanted : c.min-wanted.result ≡ min c.in_ok-n.n (c.args.most - length c.loop.text.items) = search rules in
    let kept : c.extend_from_slice.new.self.items ≡ take c.args.most (i.0 ++ piece) =
    c.in_ok-extend_from_slice.ensures.items ∙ ap (λ w. c.loop.text.items ++ take w c.read.new.buf) wanted ∙ kept_more c.args.most i.0 c.loop.text.items i.2 c.in_ok-n.n c.read.new.buf in (
      omega (arith, ap length kept, length-take c.args.most (i.0 ++ piece)),
      c.read.auto.buf ∙ c.loop.invariant.1,
      (i.0 ++ piece, consumed_more _ _ _ i.0 _ i.1 c.in_ok-n.ensures.bytes.0, kept, omega (arith, i.3, c.if-n-eq0.false, length-append i.0 piece, c.in_ok-n.ensures.bound.1)),
    )

pub returns-clause-first : goal.returns-clause-first
returns-clause-first g c =
    let i = c.loop.invariant.2 in
    kept_full c.args.most i.0 c.loop.text.items i.2 (omega (arith, i.3, c.loop-test.false, c.ranges.most)) _ _ i.1
