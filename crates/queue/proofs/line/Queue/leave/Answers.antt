use Rattle.std.proofs.Common.{◌≡◌, ◌+◌, ◌<◌, ◌≤◌, length, take, set, sym, refl, ap, ◌∙◌, subst, arith, length-set, rules}
use Rattle.lane.specs.State.{without}
use Rattle.queue.proofs.Leaving.{left_out, kept_in}
use Rattle.queue.proofs.line.Queue.leave.Goals as goal
use Rattle.queue.proofs.line.Queue.leave.Goals.{then-self-i, else-self-i}

pub loop-i-init : goal.loop-i-init
loop-i-init c = (refl, omega arith, omega arith)

pub offset_bounds-seats-kept : goal.offset_bounds-seats-kept
offset_bounds-seats-kept c = let h = c.loop-i.invariant.1 in search rules

pub bounds-seats-kept : goal.bounds-seats-kept
bounds-seats-kept c = omega (arith, c.loop-i.invariant.1, c.loop-i-test.true, c.args.self.now.within)

pub overflow_add-kept : goal.overflow_add-kept
overflow_add-kept c = let h = c.loop-i.invariant.1 in search rules

pub loop-i-preserved : goal.loop-i-preserved
loop-i-preserved c =
    let from = c.args.self.now.seats in
    let l : c.loop-i.i < length from = omega (arith, c.loop-i-test.true, c.args.self.now.within) in
    let e = c.loop-i.invariant in
    elim c.if-self-i.branch [
      | then-self-i w ↦
          let j : c.loop-i.kept < length c.loop-i.seats = omega (arith, e.1, e.2, c.loop-i-test.true, c.args.self.now.within) in
          let p = kept_in c.args.seat from c.loop-i.i l w.if-self-i.true c.loop-i.seats c.loop-i.kept j e.0 in
          (ap (λ n. take n c.if-self-i.seats) w.kept-is ∙ ap (λ z. take (c.loop-i.kept + 1) z) w.seats-is ∙ p, omega (arith, w.kept-is, e.1), ap length w.seats-is ∙ length-set _ _ _ ∙ e.2)
      | else-self-i w ↦
          let p = left_out c.args.seat from c.loop-i.i l w.if-self-i.false c.loop-i.seats c.loop-i.kept e.0 in
          (ap (λ n. take n c.if-self-i.seats) w.kept-is ∙ ap (λ z. take c.loop-i.kept z) w.seats-is ∙ p, omega (arith, w.kept-is, e.1), ap length w.seats-is ∙ e.2)
    ]

pub invariant_of-self : goal.invariant_of-self
invariant_of-self c = record { within = omega (arith, c.loop-i.invariant.1, c.loop-i.auto.i-end, c.args.self.now.within) }

pub returns : goal.returns
returns c =
    let i : c.loop-i.i ≡ c.args.self.now.len = omega (arith, c.loop-i.auto.i-end, c.loop-i-test.false) in
    c.loop-i.invariant.0 ∙ ap (λ n. without c.args.seat (take n c.args.self.now.seats)) i
