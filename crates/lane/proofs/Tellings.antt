-- What a step tells its body is what the body asks for.
use Rattle.std.proofs.Common.{◌≡◌, ℕ, not, ◌&&◌, eqb, ltb, leb, List, length, get_or, ℤ, Some, None, Option, sym, refl, ◌∙◌, subst}
use Rattle.std.proofs.lemmas.Bool.{cond_both}
use Rattle.body.specs.declared.body.Body.{Ghosts}
use Rattle.body.specs.declared.request.Request.{Request}
use Rattle.body.specs.declared.request.Request.TheVariants.{Read, Write, End}
use Rattle.body.specs.Serial.{Commit}
use Rattle.lane.specs.declared.phase.Phase.{Phase}
use Rattle.lane.specs.declared.phase.Phase.TheVariants.{Reserve, MasterLook, Take, MasterRun, Put, Begin, Run, Check, Wait, Look, Prevalidate, Swap, Validate, Mark, Cell, Release, LetGo, Quit, Leave}
use Rattle.lane.specs.declared.phase.Way.{Way}
use Rattle.lane.specs.declared.phase.Way.TheVariants.{One, Two, Three}
use Rattle.lane.specs.declared.seated.Seated.{Seated}
use Rattle.lane.specs.declared.step.Step.{Step}
use Rattle.lane.specs.Calls.{After, can_step, step_now, step_by, step_call}
use Rattle.lane.specs.History.{History, commits}
use Rattle.lane.specs.Law.{Opening}
use Rattle.lane.specs.Logs.{has, mem}
use Rattle.lane.specs.Phases.{master_run_step, read_step, run_step, way_step, look_step, look_even, let_go_step, step_at}
use Rattle.lane.specs.Runs.{Ran}
use Rattle.lane.specs.State.{Shared, Work, entries, odd, stale, first_is}
use Rattle.lane.specs.Tellings.{AnswersRequest, Tells, Answered}
use Rattle.lane.specs.Worlds.{World, work_of}
use Rattle.lane.proofs.Bodies.{Laws}
use Rattle.lane.proofs.Core.{to}
use Rattle.lane.proofs.Inv.{View, Facts, Mine}
use Rattle.lane.proofs.Runs.{view_of, Inv, inv}
use Rattle.lane.proofs.Seen.{seat_view}
use Rattle.lane.proofs.Whole.{right}

module _ {B : Type 0} (m : Ghosts B) (σ : List ℤ) (g : Shared) (C : List (Commit B)) (k : ℕ) (s : Work B) (v : View B) where
  abbrev A : Step → Type 0
  A z = AnswersRequest m z.told s.body

  look_tells : (y : Way) (o : Option ℕ) → A (look_step g.core.number y o)
  look_tells y o = cond_both (odd g.core.number) _ _ A (λ _. tt) (λ _. by y o)
    where
      by : (y : Way) (o : Option ℕ) → A (look_even g.core.number y o)
      by One o = tt
      by Two None = tt
      by Two (Some f) = tt
      by Three o = tt

  tells : (p : Phase) → Facts m σ g.core g.flag C k s v p → A (step_at m g k s p)
  tells Reserve f = cond_both g.paused _ _ A (λ _. tt) (λ _. tt)
  tells MasterLook f = cond_both (odd g.core.number) _ _ A (λ _. tt) (λ _. tt)
  tells Take f = tt
  tells MasterRun f = by (m.asks s.body) refl
    where
      by : (q : Request) → m.asks s.body ≡ q → A (master_run_step g.core.number g.core.cells q)
      by (Read c) e = e
      by (Write c x) e = tt
      by End e = tt
  tells (Put c x) f = f.1
  tells Begin f = cond_both g.paused _ _ A (λ _. tt) (λ _. tt)
  tells Run f = by (m.asks s.body) refl
    where
      way : (y : Way) → A (way_step g.core.number y)
      way One = look_tells One None
      way Two = tt
      way Three = tt

      by : (q : Request) → m.asks s.body ≡ q → A (run_step g s q)
      by (Read c) e = cond_both (has c s.writes) _ _ (λ o. A (read_step g.core.cells c o)) (λ _. e) (λ _. tt)
      by (Write c x) e = cond_both (stale g s c) _ _ A (λ _. tt) (λ _. cond_both (not (has c s.writes) && leb 32 (length s.writes)) _ _ A (λ _. tt) (λ _. e))
      by End e = cond_both (eqb (length s.writes) 0) _ _ A (λ _. tt) (λ _. way s.way)
  tells (Check c x) f = cond_both (stale g s c) _ _ A (λ _. tt) (λ _. cond_both (not (mem c s.reads) && leb 64 (length s.reads)) _ _ A (λ _. tt) (λ _. f.1))
  tells Wait f = cond_both (first_is k g.queue) _ _ A (λ _. tt) (λ _. tt)
  tells (Look o) f = look_tells s.way o
  tells (Prevalidate c i) f = cond_both (stale g s (get_or (entries s) i 0)) _ _ A (λ _. tt) (λ _. cond_both (ltb _ (length (entries s))) _ _ A (λ _. tt) (λ _. tt))
  tells (Swap o c) f = cond_both (eqb g.core.number c && not g.flag) _ _ A (λ _. tt) (λ _. tt)
  tells (Validate i) f = cond_both (stale g s (get_or (entries s) i 0)) _ _ A (λ _. tt) (λ _. cond_both (ltb _ (length (entries s))) _ _ A (λ _. tt) (λ _. tt))
  tells (Mark i) f = tt
  tells (Cell i) f = tt
  tells Release f = tt
  tells LetGo f = by s.way
    where
      by : (y : Way) → A (let_go_step y)
      by One = tt
      by Two = tt
      by Three = tt
  tells Quit f = tt
  tells Leave f = tt

module _ {B : Type 0} (m : Ghosts B) where
  -- Of any book.
  pub step_tells : (w : World B) (k : ℕ) → Tells m (step_call m w k).moment.call w.bodies (step_call m w k).world.bodies
  step_tells w k = cond_both (ltb w.helpers k) _ _ P (λ _. refl) (λ _. by (get_or w.seats k None) (get_or w.bodies k None) refl)
    where
      P : After B → Type 0
      P d = Tells m d.moment.call w.bodies d.world.bodies

      by : (x : Option Seated) (y : Option B) → get_or w.bodies k None ≡ y → Tells m (step_by m w k x y).moment.call w.bodies (step_by m w k x y).world.bodies
      by None y e = refl
      by (Some s) None e = refl
      by (Some s) (Some b) e = cond_both (can_step m w k s b) _ _ (λ (d : After B). Tells m d.moment.call w.bodies d.world.bodies) (λ _. (b, e, refl)) (λ _. refl)

  -- Of a book in a run.
  module _ (law : Laws m) (o : Opening) (h : History B) (w : World B) (r : Ran m o h w) where
    pub step_answers : (k : ℕ) → Answered m (step_call m w k).moment.call w.bodies
    step_answers k = cond_both (ltb w.helpers k) _ _ (λ (d : After B). Answered m d.moment.call w.bodies) (λ _. tt) (λ _. by (get_or w.seats k None) refl (get_or w.bodies k None) refl)
      where
        i : Inv m o h (record { shared = w.shared; seats = seat_view w })
        i = inv m o law (right m r).ran

        own : (s : Seated) (b : B) → get_or w.seats k None ≡ Some s → get_or w.bodies k None ≡ Some b → AnswersRequest m (step_now m w k s b).told b
        own s b p q =
            let e : seat_view w k ≡ Some (to s.phase (work_of w k s b)) = rw (p, q) in
            let f = subst (λ x. Mine m o.cells w.shared.core w.shared.flag (commits h) k (view_of k h) x) e (i.seats k) in
            tells m o.cells w.shared (commits h) k (work_of w k s b) (view_of k h) s.phase f

        by : (x : Option Seated) → get_or w.seats k None ≡ x → (y : Option B) → get_or w.bodies k None ≡ y → Answered m (step_by m w k x y).moment.call w.bodies
        by None p y q = tt
        by (Some s) p None q = tt
        by (Some s) p (Some b) q = cond_both (can_step m w k s b) _ _ (λ (d : After B). Answered m d.moment.call w.bodies) (λ _. λ a e. same a e (own s b p q)) (λ _. tt)
          where
            same : (a : B) → get_or w.bodies k None ≡ Some a → AnswersRequest m (step_now m w k s b).told b → AnswersRequest m (step_now m w k s b).told a
            same a e f = subst (λ x. AnswersRequest m (step_now m w k s b).told x) (one a e) f
              where
                one : (a : B) → get_or w.bodies k None ≡ Some a → b ≡ a
                one a e = let z : Some b ≡ Some a = sym q ∙ e in cc
