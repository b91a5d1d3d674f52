-- The machine as the law's proof sees it: seats looked up by number, logs as lists, and no journal.
use Rattle.std.proofs.Common.{◌≡◌, ℕ, zero, suc, ◌%◌, ◌<◌, ◌≤◌, Bool, false, cond, eqb, [], ◌∷◌, length, replicate, Some, None, Option}
use Rattle.body.specs.declared.body.Body.{Ghosts}
use Rattle.lane.specs.declared.answer.Answer.{Answer}
use Rattle.lane.specs.declared.phase.Phase.{Phase}
use Rattle.lane.specs.declared.phase.Phase.TheVariants.{Reserve, Begin}
use Rattle.lane.specs.declared.phase.Way.{Way}
use Rattle.lane.specs.declared.step.Step.{Step}
use Rattle.lane.specs.declared.told.Told.{Told}
use Rattle.lane.specs.Effects.{shared_after, seat_after}
use Rattle.lane.specs.History.{Call, seated, stepped, other, Moment, History}
use Rattle.lane.specs.Law.{Opening}
use Rattle.lane.specs.Phases.{step_at}
use Rattle.lane.specs.State.{Shared, Work, Seat, with_pause}

pub record World (B : Type 0) : Type 0 where
  pub shared : Shared
  pub seats : ℕ → Option (Seat B)

-- What a step of a seat leaves, answers and tells
pub record Out (B : Type 0) : Type 0 where
  pub shared : Shared
  pub seat : Option (Seat B)
  pub answer : Answer
  pub told : Told

-- Where a seat's transaction begins
abbrev pub first_phase : ℕ → Phase
first_phase zero = Reserve
first_phase (suc k) = Begin

abbrev pub to : {B : Type 0} → Phase → Work B → Seat B
to p s = record { phase = p; work = s }

module _ {B : Type 0} (m : Ghosts B) where
  abbrev pub out_of : Shared → ℕ → Work B → Step → Out B
  out_of g k s z = record { shared = shared_after k z.effect g; seat = seat_after m z s; answer = z.answer; told = z.told }

  abbrev pub act : Shared → ℕ → Work B → Phase → Out B
  act g k s p = out_of g k s (step_at m g k s p)

  abbrev pub put : ℕ → Option (Seat B) → (ℕ → Option (Seat B)) → ℕ → Option (Seat B)
  put k x f j = cond (eqb k j) x (f j)

  abbrev pub moment : Call B → Shared → Moment B
  moment c g = record { call = c; flag = g.flag; number = g.core.number }

  abbrev pub step_of : World B → ℕ → Seat B → World B
  step_of w k s = let u = act w.shared k s.work s.phase in record { shared = u.shared; seats = put k u.seat w.seats }

  abbrev pub step_moment : World B → ℕ → Seat B → Moment B
  step_moment w k s = let u = act w.shared k s.work s.phase in moment (stepped k u.answer u.told) u.shared

  abbrev pub seat_of : World B → ℕ → Way → B → World B
  seat_of w k y b = record { shared = w.shared; seats = put k (Some (to (first_phase k) (record { body = b; way = y; start = 0; reads = []; writes = [] }))) w.seats }

  abbrev pub pause_of : Bool → World B → World B
  pause_of p w = record { shared = with_pause p w.shared; seats = w.seats }

  abbrev pub opened : Opening → ℕ → World B
  opened o slots = record { shared = record { core = record { number = o.number; cells = o.cells; marks = replicate slots 0 }; flag = false; paused = false; queue = [] }; seats = λ k. None }

  -- A run: opened, then any calls in any turn
  pub data Ran (o : Opening) : History B → World B → Type 0 where
    opens : (slots : ℕ) → 0 < slots → o.number % 2 ≡ 0 → Ran o [] (opened o slots)
    seats : (h : History B) (w : World B) (k : ℕ) (y : Way) (b : B) → Ran o h w → w.seats k ≡ None → m.reach b ≤ length w.shared.core.cells → Ran o (moment (seated k b) w.shared ∷ h) (seat_of w k y b)
    steps : (h : History B) (w : World B) (k : ℕ) (s : Seat B) → Ran o h w → w.seats k ≡ Some s → Ran o (step_moment w k s ∷ h) (step_of w k s)
    pauses : (h : History B) (w : World B) (p : Bool) → Ran o h w → Ran o (moment other w.shared ∷ h) (pause_of p w)
    refuses : (h : History B) (w : World B) → Ran o h w → Ran o (moment other w.shared ∷ h) w
