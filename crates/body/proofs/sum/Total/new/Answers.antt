use Rattle.std.proofs.Common.{ℕ, ◌≤◌, pos, Ok, refl, subst, arith}
use Rattle.body.specs.Makers.{MakesTotal, no_result, top_cell}
use Rattle.body.specs.declared.sum.Total.{Total}
use Rattle.body.specs.declared.sum.TotalStep.TheVariants.{Read}
use Rattle.body.specs.Totals.{total_members}
use Rattle.body.proofs.Alone.{made}
use Rattle.body.proofs.Doing.{does_total}
use Rattle.body.specs.TotalLaws.{total_lawful}
use Rattle.body.proofs.Totalled.{follows_total}
use Rattle.body.proofs.sum.Total.new.Goals as goal

-- a total at its start
abbrev at_start : ℕ → ℕ → ℕ → Total
at_start first last target = record { first = first; last = last; target = target; step = Read first (pos 0) }

makes : (first last target : ℕ) → first ≤ last → last ≤ top_cell → target ≤ top_cell → MakesTotal first last target (Ok (at_start first last target))
makes first last target order few there = (
  (order, few, there),
  made total_members no_result total_lawful _ _ _ _ _ refl (follows_total (at_start first last target) order few) refl refl (λ cells room. (does_total first last target cells order (omega arith), refl)),
)

pub returns : goal.returns
returns c =
    let first = rw c.in_ok-first.ensures.ok_part at c.cell_of.ensures in
    let last = rw c.in_ok-last.ensures.ok_part at c.cell_of-2.ensures in
    let target = rw c.in_ok-target.ensures.ok_part at c.cell_of-3.ensures in
    let t = at_start c.in_ok-first.first c.in_ok-last.last c.in_ok-target.target in
    let made_here = makes c.in_ok-first.first c.in_ok-last.last c.in_ok-target.target c.if-first-last.false (omega arith) (omega arith) in
    subst (λ n. MakesTotal n c.args.last c.args.target (Ok t)) first.0
    (subst (λ n. MakesTotal c.in_ok-first.first n c.args.target (Ok t)) last.0
    (subst (λ n. MakesTotal c.in_ok-first.first c.in_ok-last.last n (Ok t)) target.0 made_here))
