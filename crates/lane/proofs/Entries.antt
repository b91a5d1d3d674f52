-- In a run every entry of a log is a cell of the book, every amount in a cell or a log is within the limit, and attempts start
-- at even numbers.
use Rattle.std.proofs.Common.{◌≡◌, ℕ, ◌+◌, ◌%◌, ◌<◌, not, ◌&&◌, eqb, ltb, leb, List, [], ◌∷◌, length, get_or, ℤ, Some, None, Option, refl, subst, arith}
use Rattle.std.specs.List.{AllByRecursion}
use Rattle.std.proofs.ByRecursion.{All-get_or, All-set, All-push}
use Rattle.std.proofs.lemmas.Bool.{cond_both}
use Rattle.body.specs.declared.body.Body.{Ghosts}
use Rattle.body.specs.declared.request.Request.{Request}
use Rattle.body.specs.declared.request.Request.TheVariants.{Read, Write, End}
use Rattle.body.specs.Meaning.{Within, Proper}
use Rattle.body.specs.Serial.{Commit}
use Rattle.lane.specs.declared.phase.Phase.{Phase}
use Rattle.lane.specs.declared.phase.Phase.TheVariants.{Reserve, MasterLook, Take, MasterRun, Put, Begin, Run, Check, Wait, Look, Prevalidate, Swap, Validate, Mark, Cell, Release, LetGo, Quit, Leave}
use Rattle.lane.specs.declared.phase.Way.{Way}
use Rattle.lane.specs.declared.phase.Way.TheVariants.{One, Two, Three}
use Rattle.lane.specs.declared.step.Effect.{Effect}
use Rattle.lane.specs.declared.step.Effect.TheVariants.{Unchanged, FlagSet, LaneTaken, MarkSet, CellSet, NumberRaised, NumberLowered, QueueJoined, QueueLeft}
use Rattle.lane.specs.declared.step.LogChange.{LogChange}
use Rattle.lane.specs.declared.step.LogChange.TheVariants.{Same, Emptied, Noted, Entered}
use Rattle.lane.specs.declared.step.Step.{Step}
use Rattle.lane.specs.declared.told.Told.{Told}
use Rattle.lane.specs.declared.told.Told.TheVariants.{Nothing, Restarted, Handed, Taken}
use Rattle.lane.specs.declared.written.Written.{Written}
use Rattle.lane.specs.Effects.{shared_after, start_after, reads_after, writes_after, work_after, seat_to}
use Rattle.lane.specs.History.{History, commits}
use Rattle.lane.specs.Law.{Opening}
use Rattle.lane.specs.Logs.{has, mem, enter, no_entry}
use Rattle.lane.specs.Phases.{master_run_step, read_step, look_even, look_step, way_step, run_step, let_go_step, step_at}
use Rattle.lane.specs.State.{Shared, Work, Seat, entries, odd, stale, first_is}
use Rattle.lane.proofs.Bodies.{Laws, reads_within, writes_within}
use Rattle.lane.proofs.Core.{World, put, Ran, opens, seats, steps, pauses, refuses}
use Rattle.lane.proofs.Counts.{facts}
use Rattle.lane.proofs.Inv.{View, Doing, Facts}
use Rattle.lane.proofs.Runs.{view_of, inv}

-- An entry of a write log: a cell of a book with so many cells, and an amount within the limit.
abbrev pub Fit : ℕ → Written → Type 0
Fit size x = (x.cell < size) × Within x.amount

pub record Held {B : Type 0} (size : ℕ) (s : Work B) : Type 0 where
  pub reads : AllByRecursion (λ c. c < size) s.reads
  pub writes : AllByRecursion (Fit size) s.writes
  pub even : s.start % 2 ≡ 0

abbrev pub HeldSeat : {B : Type 0} → ℕ → Option (Seat B) → Type 0
HeldSeat size None = Unit {0}
HeldSeat size (Some s) = Held size s.work

-- What a step does to logs, cells and start.
abbrev LogsFit : ℕ → LogChange → Type 0
LogsFit size Same = Unit {0}
LogsFit size Emptied = Unit {0}
LogsFit size (Noted c) = c < size
LogsFit size (Entered c v) = (c < size) × Within v

abbrev SetsWithin : Effect → Type 0
SetsWithin Unchanged = Unit {0}
SetsWithin FlagSet = Unit {0}
SetsWithin LaneTaken = Unit {0}
SetsWithin (MarkSet c) = Unit {0}
SetsWithin (CellSet c v) = Within v
SetsWithin NumberRaised = Unit {0}
SetsWithin NumberLowered = Unit {0}
SetsWithin QueueJoined = Unit {0}
SetsWithin QueueLeft = Unit {0}

abbrev StartsEven : Told → Type 0
StartsEven Nothing = Unit {0}
StartsEven (Restarted n) = n % 2 ≡ 0
StartsEven (Handed c v) = Unit {0}
StartsEven (Taken c v) = Unit {0}

abbrev Tidy : ℕ → Step → Type 0
Tidy size z = LogsFit size z.log × SetsWithin z.effect × StartsEven z.told

-- A tidy step keeps what is held -------------------------------------------------

all_enter : (P : Written → Type 0) (c : ℕ) (v : ℤ) (W : List Written) → P (record { cell = c; amount = v }) → AllByRecursion P W → AllByRecursion P (enter c v W)
all_enter P c v [] p a = (p, tt)
all_enter P c v (x ∷ W) p a =
    let rest = all_enter P c v W p a.1 in
    cond_both (eqb x.cell c) _ _ (λ (l : List Written). AllByRecursion P l) (λ e. (p, a.1)) (λ e. (a.0, rest))

reads_held : (size : ℕ) (l : LogChange) (R : List ℕ) → LogsFit size l → AllByRecursion (λ c. c < size) R → AllByRecursion (λ c. c < size) (reads_after l R)
reads_held size Same R f a = a
reads_held size Emptied R f a = tt
reads_held size (Noted c) R f a = cond_both (mem c R) _ _ (λ (l : List ℕ). AllByRecursion (λ c. c < size) l) (λ e. a) (λ e. All-push (λ c. c < size) R c a f)
reads_held size (Entered c v) R f a = a

writes_held : (size : ℕ) (l : LogChange) (W : List Written) → LogsFit size l → AllByRecursion (Fit size) W → AllByRecursion (Fit size) (writes_after l W)
writes_held size Same W f a = a
writes_held size Emptied W f a = tt
writes_held size (Noted c) W f a = a
writes_held size (Entered c v) W f a = all_enter (Fit size) c v W f a

start_held : (t : Told) (n : ℕ) → StartsEven t → n % 2 ≡ 0 → start_after t n % 2 ≡ 0
start_held Nothing n f e = e
start_held (Restarted s) n f e = f
start_held (Handed c v) n f e = e
start_held (Taken c v) n f e = e

cells_within : (k : ℕ) (e : Effect) (g : Shared) → SetsWithin e → AllByRecursion Within g.core.cells → AllByRecursion Within (shared_after k e g).core.cells
cells_within k Unchanged g f a = a
cells_within k FlagSet g f a = a
cells_within k LaneTaken g f a = a
cells_within k (MarkSet c) g f a = a
cells_within k (CellSet c v) g f a = All-set Within g.core.cells c v f a
cells_within k NumberRaised g f a = a
cells_within k NumberLowered g f a = a
cells_within k QueueJoined g f a = a
cells_within k QueueLeft g f a = a

seat_held : {B : Type 0} (m : Ghosts B) (size : ℕ) (z : Step) (s : Work B) → Tidy size z → Held size s → (x : Option Phase)
    → HeldSeat size (seat_to m x (work_after m z s))
seat_held m size z s t h None = tt
seat_held m size z s t h (Some q) = record {
  reads = reads_held size z.log s.reads t.0 h.reads;
  writes = writes_held size z.log s.writes t.0 h.writes;
  even = start_held z.told s.start t.2 h.even;
}

-- Every step is tidy -----------------------------------------------------------

module _ {B : Type 0} (m : Ghosts B) (law : Laws m) (σ : List ℤ) (g : Shared) (C : List (Commit B)) (k : ℕ)
    (s : Work B) (v : View B) (h : Held (length σ) s) where
  abbrev T : Step → Type 0
  T z = Tidy (length σ) z

  read_there : {τ : List ℤ} {c : ℕ} → Doing m σ τ s v → m.asks s.body ≡ Read c → c < length σ
  read_there d e = let l = reads_within m law d.valid e in omega (arith, d.fits)

  write_fits : {τ : List ℤ} {c : ℕ} {x : ℤ} → Doing m σ τ s v → m.asks s.body ≡ Write c x → (c < length σ) × Within x
  write_fits d e =
      let l = writes_within m law d.valid e in
      (omega (arith, d.fits), (subst (Proper (m.reach s.body)) e (law.proper s.body)).1)

  tidy_look : (o : Option ℕ) (y : Way) → T (look_step g.core.number y o)
  tidy_look o y = cond_both (odd g.core.number) _ _ T (λ e. (tt, tt, tt)) (λ e. by y o)
    where
      by : (y' : Way) (o' : Option ℕ) → T (look_even g.core.number y' o')
      by One o' = (tt, tt, tt)
      by Two None = (tt, tt, tt)
      by Two (Some f) = (tt, tt, tt)
      by Three o' = (tt, tt, tt)

  tidy_master : (q : Request) → T (master_run_step g.core.number g.core.cells q)
  tidy_master (Read c) = (tt, tt, tt)
  tidy_master (Write c x) = (tt, tt, tt)
  tidy_master End = (tt, tt, tt)

  tidy_run : {τ : List ℤ} → Doing m σ τ s v → (q : Request) → m.asks s.body ≡ q → T (run_step g s q)
  tidy_run d (Read c) e = cond_both (has c s.writes) _ _ (λ o. T (read_step g.core.cells c o)) (λ _. (tt, tt, tt)) (λ _. (tt, tt, tt))
  tidy_run d (Write c x) e = cond_both (stale g s c) _ _ T (λ _. (tt, tt, tt))
      (λ _. cond_both (not (has c s.writes) && leb 32 (length s.writes)) _ _ T (λ _. (tt, tt, tt)) (λ _. (write_fits d e, tt, tt)))
  tidy_run d End e = cond_both (eqb (length s.writes) 0) _ _ T (λ _. (tt, tt, tt)) (λ _. by s.way)
    where
      by : (y : Way) → T (way_step g.core.number y)
      by One = tidy_look None One
      by Two = (tt, tt, tt)
      by Three = (tt, tt, tt)

  pub tidy : (p : Phase) → Facts m σ g.core g.flag C k s v p → Tidy (length σ) (step_at m g k s p)
  tidy Reserve f = cond_both g.paused _ _ T (λ _. (tt, tt, tt)) (λ _. (tt, tt, tt))
  tidy MasterLook f = cond_both (odd g.core.number) _ _ T (λ _. (tt, tt, tt)) (λ _. (tt, tt, tt))
  tidy Take f = (tt, tt, f.3)
  tidy MasterRun f = tidy_master (m.asks s.body)
  tidy (Put c x) f = (tt, (write_fits f.0.doing f.1).1, tt)
  tidy Begin f = cond_both g.paused _ _ T (λ _. (tt, tt, tt)) (λ _. (tt, tt, omega arith))
  tidy Run f = tidy_run f.doing (m.asks s.body) refl
  tidy (Check c x) f = cond_both (stale g s c) _ _ T (λ _. (tt, tt, tt))
      (λ _. cond_both (not (mem c s.reads) && leb 64 (length s.reads)) _ _ T (λ _. (tt, tt, tt)) (λ _. (read_there f.0.doing f.1, tt, tt)))
  tidy Wait f = cond_both (first_is k g.queue) _ _ T (λ _. (tt, tt, tt)) (λ _. (tt, tt, tt))
  tidy (Look o) f = tidy_look o s.way
  tidy (Prevalidate n i) f = cond_both (stale g s (get_or (entries s) i 0)) _ _ T (λ _. (tt, tt, tt))
      (λ _. cond_both (ltb (i + 1) (length (entries s))) _ _ T (λ _. (tt, tt, tt)) (λ _. (tt, tt, tt)))
  tidy (Swap o n) f = cond_both (eqb g.core.number n && not g.flag) _ _ T (λ _. (tt, tt, tt)) (λ _. (tt, tt, tt))
  tidy (Validate i) f = cond_both (stale g s (get_or (entries s) i 0)) _ _ T (λ _. (tt, tt, tt))
      (λ _. cond_both (ltb (i + 1) (length (entries s))) _ _ T (λ _. (tt, tt, tt)) (λ _. (tt, tt, tt)))
  tidy (Mark i) f = (tt, tt, tt)
  tidy (Cell i) f = (tt, (All-get_or (Fit (length σ)) s.writes i no_entry f.1 h.writes).1, tt)
  tidy Release f = (tt, tt, tt)
  tidy LetGo f = by s.way
    where
      by : (y : Way) → T (let_go_step y)
      by One = (tt, tt, tt)
      by Two = (tt, tt, tt)
      by Three = (tt, tt, tt)
  tidy Quit f = (tt, tt, tt)
  tidy Leave f = (tt, tt, tt)

-- A run ------------------------------------------------------------------------

module _ {B : Type 0} (m : Ghosts B) (o : Opening) where
  pub record Clean (w : World B) : Type 0 where
    pub cells : AllByRecursion Within w.shared.core.cells
    pub seats : (k : ℕ) → HeldSeat (length o.cells) (w.seats k)

  one_put : (k : ℕ) (x : Option (Seat B)) (f : ℕ → Option (Seat B)) → HeldSeat (length o.cells) x
      → ((j : ℕ) → HeldSeat (length o.cells) (f j)) → (j : ℕ) → HeldSeat (length o.cells) (put m k x f j)
  one_put k x f a b j = cond_both (eqb k j) _ _ (HeldSeat (length o.cells)) (λ e. a) (λ e. b j)

  pub clean : Laws m → AllByRecursion Within o.cells → {h : History B} {w : World B} → Ran m o h w → Clean w
  clean law a (opens slots l e) = record { cells = a; seats = λ k. tt }
  clean law a (seats h w k y b r idle fits) =
      let i = clean law a r in
      record { cells = i.cells; seats = one_put k _ w.seats (record { reads = tt; writes = tt; even = refl }) i.seats }
  clean law a (steps h w k s r at) =
      let i = clean law a r in
      let held : Held (length o.cells) s.work = subst (HeldSeat (length o.cells)) at (i.seats k) in
      let f = facts m o law h w (inv m o law r) k s at in
      let z : Step = step_at m w.shared k s.work s.phase in
      let t : Tidy (length o.cells) z = tidy m law o.cells w.shared (commits h) k s.work (view_of k h) held s.phase f in
      record {
        cells = cells_within k z.effect w.shared t.1 i.cells;
        seats = one_put k _ w.seats (seat_held m (length o.cells) z s.work t held z.next) i.seats;
      }
  clean law a (pauses h w p r) = let i = clean law a r in record { cells = i.cells; seats = i.seats }
  clean law a (refuses h w r) = clean law a r
