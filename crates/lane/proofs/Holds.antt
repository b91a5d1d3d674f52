-- The law of runs holds of every run.
use Rattle.std.proofs.Common.{ℕ, ◌+◌, ◌*◌, ◌<◌, ◌≤◌, Some, None, Option, subst, arith}
use Rattle.body.specs.declared.body.Body.{Ghosts}
use Rattle.lane.specs.History.{History, commits, steps_of}
use Rattle.lane.specs.Law.{Opening, Sound}
use Rattle.lane.specs.State.{Seat, base}
use Rattle.lane.proofs.Core.{World, Ran}
use Rattle.lane.proofs.Bodies.{Laws}
use Rattle.lane.proofs.Inv.{Mine, Hears, Breaks}
use Rattle.lane.proofs.Runs.{view_of, Each, each_at, OfStep, HeardAt, BrokenAt, ReservedAt, Inv, inv}
use Rattle.lane.proofs.Counts.{rank_seat, rank_few, back}
use Rattle.lane.proofs.Soon.{Progs, prog_few, soon}

module _ {B : Type 0} (m : Ghosts B) (o : Opening) (law : Laws m) where
  module _ (h : History B) (w : World B) (i : Inv m o h w) where
    few_steps : (k : ℕ) (x : Option (Seat B)) → Mine m o.cells w.shared.core w.shared.flag (commits h) k (view_of k h) x → rank_seat x ≤ 160
    few_steps k None f = omega arith
    few_steps k (Some s) f = rank_few m o.cells w.shared (commits h) k s.work (view_of k h) s.phase f

    soon_few : (x : Option (Seat B)) (b : B) (r : ℕ) → Mine m o.cells w.shared.core w.shared.flag (commits h) 0 (view_of 0 h) x → Progs m w.shared b r x → r ≤ 2 * m.len b + 2
    soon_few None b r f q = absurd q
    soon_few (Some s) b r f q = prog_few m o.cells law w.shared (commits h) 0 s.work (view_of 0 h) s.phase b r f q

  pub sound : {h : History B} {w : World B} → Ran m o h w → Sound m o h w.shared.core.cells
  sound {h} {w} r = record {
    serial = i.shared.agrees;
    settled = λ e. i.shared.free (let z = i.number in omega arith);
    snapshot = λ newer older e k a c v q s. (subst (OfStep (λ k a t. Hears m o.cells (base w.shared.core.number) (commits h) (view_of k older) t)) s (each_at (HeardAt m o (base w.shared.core.number) (commits h)) newer older e (subst (Each (HeardAt m o (base w.shared.core.number) (commits h))) q i.heard))).1;
    never_broken = λ newer older e t q s. (let z : 0 < 0 = subst (OfStep (λ k a t. Breaks m o.cells k a)) s (each_at (BrokenAt m o) newer older e (subst (Each (BrokenAt m o)) q i.broken)) in omega arith);
    reserved = λ newer older e q t. each_at (ReservedAt m o) newer older e (subst (Each (ReservedAt m o)) q i.reserved) t;
    gives_back = λ newer older e k q l t ng. (let z = back m o law r k newer older e q l t ng in omega (arith, z.1, few_steps h w i k (w.seats k) (i.seats k)));
    soon = λ newer older b q t e s nc. soon_few h w i (w.seats 0) b (steps_of 0 newer) (i.seats 0) (soon m o law r newer older b q t e s nc).1;
  }
    where
      i : Inv m o h w
      i = inv m o law r
