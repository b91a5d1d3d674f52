-- A plan of the code is the step that the calls are defined by.
use Rattle.std.proofs.Common.{◌≡◌, ℕ, ◌≤◌, true, false, cond, ltb, List, length, get_or, drop, Some, None, Ok, Err, Result, sym, refl, ap, ◌∙◌, arith, length-take}
use Rattle.body.specs.declared.body.Body.{Ghosts}
use Rattle.lane.specs.declared.phase.Phase.{Phase}
use Rattle.lane.specs.declared.phase.Phase.TheVariants.{Reserve, MasterLook, Take, MasterRun, Put, Begin, Run, Check, Wait, Look, Prevalidate, Swap, Validate, Mark, Cell, Release, LetGo, Quit, Leave}
use Rattle.lane.specs.declared.refusal.StepRefusal.{StepRefusal}
use Rattle.lane.specs.declared.refusal.StepRefusal.TheVariants.{Lists as Lists-refused}
use Rattle.lane.specs.declared.seated.Seated.{Seated}
use Rattle.lane.specs.declared.step.Step.{Step}
use Rattle.lane.specs.declared.written.Written.{Written}
use Rattle.lane.specs.Calls.{entry_of, there, same_sizes, step_now}
use Rattle.lane.specs.Phases.{step_at}
use Rattle.lane.specs.Worlds.{World, stretch, read_log, write_log, work_of}
use Rattle.book.specs.declared.desk.Desk.{Desk}
use Rattle.book.specs.declared.lists.Lists.{Lists}
use Rattle.book.specs.declared.ready.Ready.{Ready}
use Rattle.book.specs.Chairs.{bodies_of, seats_of}
use Rattle.book.specs.Views.{work_with, world, ready_of}

pub short_stretch : {X : Type 0} (l : List X) (p n : ℕ) → length (stretch l p n) ≤ n
short_stretch l p n = let e = length-take n (drop p l) in omega arith

-- Which entry a step works on has nothing to do with the body.
entry_same : {B : Type 0} (b : B) (s : Seated) (R : List ℕ) (W : List Written) (p : Phase) → entry_of (work_with (tt {0}) s R W) p ≡ entry_of (work_with b s R W) p
entry_same b s R W Reserve = refl
entry_same b s R W MasterLook = refl
entry_same b s R W Take = refl
entry_same b s R W MasterRun = refl
entry_same b s R W (Put c v) = refl
entry_same b s R W Begin = refl
entry_same b s R W Run = refl
entry_same b s R W (Check c v) = refl
entry_same b s R W Wait = refl
entry_same b s R W (Look checked) = refl
entry_same b s R W (Prevalidate seen at) = refl
entry_same b s R W (Swap checked seen) = refl
entry_same b s R W (Validate at) = refl
entry_same b s R W (Mark at) = refl
entry_same b s R W (Cell at) = refl
entry_same b s R W Release = refl
entry_same b s R W LetGo = refl
entry_same b s R W Quit = refl
entry_same b s R W Leave = refl

-- A seat with a transaction and a body, and lists as at open. `R` and `W` are its logs, as the code finds them.
module _ {B : Type 0} (m : Ghosts B) (d : Desk B) (l : Lists) (k : ℕ) (s : Seated) (b : B)
    (h : ltb d.helpers k ≡ false) (at : get_or (seats_of d.chairs) k None ≡ Some s) (has : get_or (bodies_of d.chairs) k None ≡ Some b) (lent : same_sizes (world d l) ≡ true)
    (R : List ℕ) (W : List Written) (is-reads : R ≡ read_log (world d l) k s) (is-writes : W ≡ write_log (world d l) k s) where
  abbrev w : World B
  w = world d l

  works : there (length l.cells.now) (entry_of (work_with (tt {0}) s R W) s.phase) ≡ there (length l.cells.now) (entry_of (work_of w k s b) s.phase)
  works =
      ap (there (length l.cells.now)) (entry_same b s R W s.phase)
      ∙ ap (λ x. there (length l.cells.now) (entry_of (work_with b s x W) s.phase)) is-reads
      ∙ ap (λ x. there (length l.cells.now) (entry_of (work_with b s (read_log w k s) x) s.phase)) is-writes

  -- What the seat may do, as the calls define it.
  pub ready_is : cond (there (length l.cells.now) (entry_of (work_of w k s b) s.phase)) (Ok (record { seated = s; step = step_now m w k s b; kind = m.KIND })) (Err Lists-refused) ≡ ready_of m w k
  ready_is = rw (h, at, has, lent) refl

  pub ready_no : there (length l.cells.now) (entry_of (work_with (tt {0}) s R W) s.phase) ≡ false → Err Lists-refused ≡ ready_of m w k
  ready_no t = ap {B = Result Ready StepRefusal} (λ x. cond x (Ok (record { seated = s; step = step_now m w k s b; kind = m.KIND })) (Err Lists-refused)) (sym t ∙ works) ∙ ready_is

  pub ready_yes : (z : Step) (kind : ℕ) → there (length l.cells.now) (entry_of (work_with (tt {0}) s R W) s.phase) ≡ true → z ≡ step_at m w.shared k (work_with b s R W) s.phase → kind ≡ m.KIND → Ok (record { seated = s; step = z; kind = kind }) ≡ ready_of m w k
  ready_yes z kind t e q =
      let z≡ = e ∙ ap (λ x. step_at m w.shared k (work_with b s x W) s.phase) is-reads ∙ ap (λ x. step_at m w.shared k (work_with b s (read_log w k s) x) s.phase) is-writes in
      ap {B = Result Ready StepRefusal} (λ x. Ok (record { seated = s; step = x; kind = kind })) z≡
      ∙ ap {B = Result Ready StepRefusal} (λ x. Ok (record { seated = s; step = step_now m w k s b; kind = x })) q
      ∙ ap {B = Result Ready StepRefusal} (λ x. cond x (Ok (record { seated = s; step = step_now m w k s b; kind = m.KIND })) (Err Lists-refused)) (sym t ∙ works)
      ∙ ready_is
