-- What holds of a world and its history at any time, in parts: what is shared, and each seat by its phase.
use Rattle.std.proofs.Common.{◌≡◌, ℕ, suc, ◌%◌, ◌<◌, ◌≤◌, Bool, true, false, ◌⊎◌, List, [], ◌∷◌, length, get_or, take, ℤ, pos, Some, None, Option}
use Rattle.body.specs.declared.body.Body.{Ghosts}
use Rattle.body.specs.declared.request.Request.TheVariants.{Read, Write, End}
use Rattle.lane.specs.declared.answer.Answer.{Answer}
use Rattle.lane.specs.declared.answer.Answer.TheVariants.{GoneOn, Waiting, Paused, BrokenOff, Committed, TooLong}
use Rattle.body.specs.Serial.{Commit, Agrees, ordered}
use Rattle.lane.specs.declared.told.Told.{Told}
use Rattle.lane.specs.declared.told.Told.TheVariants.{Nothing, Restarted, Handed, Taken}
use Rattle.lane.specs.History.{own_or, amounts, with_body}
use Rattle.lane.specs.declared.phase.Phase.{Phase}
use Rattle.lane.specs.declared.phase.Phase.TheVariants.{Reserve, MasterLook, Take, MasterRun, Put, Begin, Run, Check, Wait, Look, Prevalidate, Swap, Validate, Mark, Cell, Release, LetGo, Quit, Leave}
use Rattle.lane.specs.Logs.{has, no_entry}
use Rattle.lane.specs.State.{Work, Seat, entries, Core, Shared, base, mark_of}
use Rattle.lane.proofs.Core.{Out}
use Rattle.lane.proofs.Bodies.{over, Valid}
use Rattle.lane.proofs.Orders.{Upto, state, full}
use Rattle.lane.proofs.Logs.{log, emit, Covers}

-- What a seat's body and attempt are, by the history
pub record View (B : Type 0) : Type 0 where
  pub told : List Told
  pub start : ℕ
  pub body : Option B

module _ {B : Type 0} where
  abbrev pub heard : Told → View B → View B
  heard Nothing v = v
  heard (Restarted s) v = record { told = []; start = s; body = v.body }
  heard (Handed c x) v = record { told = Handed c x ∷ v.told; start = v.start; body = v.body }
  heard (Taken c x) v = record { told = Taken c x ∷ v.told; start = v.start; body = v.body }

  abbrev pub grown : Answer → View B → List (Commit B) → List (Commit B)
  grown GoneOn v C = C
  grown Waiting v C = C
  grown Paused v C = C
  grown BrokenOff v C = C
  grown (Committed n) v C = with_body v.body n (amounts v.told) C
  grown TooLong v C = C

-- Whether a phase holds the lane
abbrev pub holds : Phase → Bool
holds Reserve = false
holds MasterLook = false
holds Take = false
holds MasterRun = true
holds (Put c v) = true
holds Begin = false
holds Run = false
holds (Check c v) = false
holds Wait = false
holds (Look p) = false
holds (Prevalidate c i) = false
holds (Swap p c) = false
holds (Validate i) = true
holds (Mark i) = true
holds (Cell i) = true
holds Release = true
holds LetGo = true
holds Quit = false
holds Leave = false

abbrev pub holds_seat : {B : Type 0} → Option (Seat B) → Bool
holds_seat None = false
holds_seat (Some s) = holds s.phase

module _ {B : Type 0} where
  -- The first i entries have marks up to the start, or above f
  abbrev pub Seen : Core → Work B → ℕ → ℕ → ℕ → Type 0
  Seen g s st f i = (j : ℕ) → j < i → (mark_of g (get_or (entries s) j 0) ≤ st) ⊎ (f < mark_of g (get_or (entries s) j 0))

  abbrev pub Fresh : Core → Work B → ℕ → ℕ → Type 0
  Fresh g s st i = (j : ℕ) → j < i → mark_of g (get_or (entries s) j 0) ≤ st

  abbrev pub Sure : Core → Work B → ℕ → Option ℕ → Type 0
  Sure g s st None = Unit {0}
  Sure g s st (Some f) = (f ≤ base g.number) × Seen g s st f (length (entries s))

  pub record Begun (g : Core) (s : Work B) (st : ℕ) : Type 0 where
    pub is : s.start ≡ st
    pub early : st ≤ base g.number

  pub record Logged (s : Work B) (T : List Told) : Type 0 where
    pub written : s.writes ≡ log T
    pub covers : Covers s.reads T
    pub few_reads : length s.reads ≤ 64
    pub few_writes : length s.writes ≤ 32

module _ {B : Type 0} (m : Ghosts B) (σ : List ℤ) where
  pub record Sh (g : Core) (C : List (Commit B)) : Type 0 where
    pub numbers : Upto (base g.number) C
    pub high : (c : ℕ) → mark_of g c ≤ g.number
    pub free : g.number % 2 ≡ 0 → g.cells ≡ full m σ C
    pub marked : (c t : ℕ) → mark_of g c ≤ t → t ≤ base g.number → get_or g.cells c (pos 0) ≡ get_or (state m σ t C) c (pos 0)
    pub agrees : Agrees m (ordered C) σ
    pub long : length g.cells ≡ length σ
    pub some : 0 < length g.marks

  -- A body that is to be restarted
  pub record Waits (s : Work B) (bo : Option B) : Type 0 where
    pub who : B
    pub seated : bo ≡ Some who
    pub same : m.begin s.body ≡ m.begin who
    pub fits : m.reach who ≤ length σ

  -- An attempt that was handed what stands in τ
  pub record Doing (τ : List ℤ) (s : Work B) (v : View B) : Type 0 where
    pub who : B
    pub seated : v.body ≡ Some who
    pub valid : Valid m τ who v.told s.body
    pub fits : m.reach who ≤ length σ

  -- An attempt that has come to its end, and wrote something
  pub record Ends (s : Work B) : Type 0 where
    pub asked : m.asks s.body ≡ End
    pub some : 0 < length s.writes

  -- A helper before it has the lane
  pub record Ready (g : Core) (C : List (Commit B)) (k : ℕ) (s : Work B) (v : View B) : Type 0 where
    pub helper : 0 < k
    pub doing : Doing (state m σ v.start C) s v
    pub begun : Begun g s v.start
    pub logs : Logged s v.told

  -- A helper in the lane that may emit
  pub record Emits (n : ℕ) (C : List (Commit B)) (k : ℕ) (s : Work B) (v : View B) : Type 0 where
    pub helper : 0 < k
    pub doing : Doing (full m σ C) s v
    pub logs : Logged s v.told
    pub ends : Ends s
    pub odd : n % 2 ≡ 1

  -- The master in the lane
  pub record Masters (n : ℕ) (cs : List ℤ) (C : List (Commit B)) (k : ℕ) (s : Work B) (v : View B) : Type 0 where
    pub master : k ≡ 0
    pub doing : Doing (full m σ C) s v
    pub now : suc v.start ≡ n
    pub cells : cs ≡ over v.told (full m σ C)
    pub odd : n % 2 ≡ 1

  abbrev pub Low : Core → Type 0
  Low g = (c : ℕ) → mark_of g c ≤ base g.number

  abbrev pub Facts : Core → Bool → List (Commit B) → ℕ → Work B → View B → Phase → Type 0
  Facts g fl C k s v Reserve = (k ≡ 0) × Waits s v.body
  Facts g fl C k s v MasterLook = (k ≡ 0) × Waits s v.body × (fl ≡ true)
  Facts g fl C k s v Take = (k ≡ 0) × Waits s v.body × (fl ≡ true) × (g.number % 2 ≡ 0)
  Facts g fl C k s v MasterRun = Masters g.number g.cells C k s v
  Facts g fl C k s v (Put c x) = Masters g.number g.cells C k s v × (m.asks s.body ≡ Write c x) × (mark_of g c ≡ g.number)
  Facts g fl C k s v Begin = (0 < k) × Waits s v.body
  Facts g fl C k s v Run = Ready g C k s v
  Facts g fl C k s v (Check c x) = Ready g C k s v × (m.asks s.body ≡ Read c) × (has c s.writes ≡ false) × ((v.start < mark_of g c) ⊎ (x ≡ get_or (state m σ v.start C) c (pos 0)))
  Facts g fl C k s v Wait = Ready g C k s v × Ends s
  Facts g fl C k s v (Look p) = Ready g C k s v × Ends s × Sure g s v.start p
  Facts g fl C k s v (Prevalidate c i) = Ready g C k s v × Ends s × (c % 2 ≡ 0) × (c ≤ base g.number) × Seen g s v.start c i
  Facts g fl C k s v (Swap p c) = Ready g C k s v × Ends s × (c % 2 ≡ 0) × Sure g s v.start p
  Facts g fl C k s v (Validate i) = Ready g C k s v × Ends s × (g.number % 2 ≡ 1) × (g.cells ≡ full m σ C) × Low g × (i < length (entries s)) × Fresh g s v.start i
  Facts g fl C k s v (Mark i) = Emits g.number C k s v × (i < length s.writes) × (g.cells ≡ emit (take i s.writes) (full m σ C))
  Facts g fl C k s v (Cell i) = Emits g.number C k s v × (i < length s.writes) × (g.cells ≡ emit (take i s.writes) (full m σ C)) × (mark_of g (get_or s.writes i no_entry).cell ≡ g.number)
  Facts g fl C k s v Release = Emits g.number C k s v × (g.cells ≡ emit s.writes (full m σ C))
  Facts g fl C k s v LetGo = (0 < k) × Waits s v.body × (g.number % 2 ≡ 1) × (g.cells ≡ full m σ C) × Low g × (length (entries s) ≤ 96)
  Facts g fl C k s v Quit = (0 < k) × Waits s v.body
  Facts g fl C k s v Leave = 0 < k

  abbrev pub Mine : Core → Bool → List (Commit B) → ℕ → View B → Option (Seat B) → Type 0
  Mine g fl C k v None = Unit {0}
  Mine g fl C k v (Some s) = Facts g fl C k s.work v s.phase

  -- What others may do to what is shared while a seat does not hold the lane
  pub record Later (g : Core) (C : List (Commit B)) (g' : Core) (C' : List (Commit B)) : Type 0 where
    pub grows : base g.number ≤ base g'.number
    pub states : (t : ℕ) → t ≤ base g.number → state m σ t C' ≡ state m σ t C
    pub marks : (c : ℕ) → (mark_of g' c ≡ mark_of g c) ⊎ (base g.number < mark_of g' c)

  -- And while one does
  pub record Quiet (g : Core) (C : List (Commit B)) (g' : Core) (C' : List (Commit B)) : Type 0 where
    pub same : g' ≡ g
    pub states : (t : ℕ) → state m σ t C' ≡ state m σ t C
    pub all : full m σ C' ≡ full m σ C

  -- What a step of seat k in phase p does to what is shared
  pub data Moves (g : Shared) (C : List (Commit B)) (k : ℕ) (p : Phase) (u : Out B) (C' : List (Commit B)) : Type 0 where
    quiet : Quiet g.core C u.shared.core C' → (holds_seat u.seat ≡ true → holds p ≡ true) → Moves g C k p u C'
    takes : g.core.number % 2 ≡ 0 → u.shared.core.number % 2 ≡ 1 → (g.flag ≡ false) ⊎ (k ≡ 0) → holds_seat u.seat ≡ true → Moves g C k p u C'
    works : holds p ≡ true → g.core.number % 2 ≡ 1 → Moves g C k p u C'

  -- An amount that was handed is the attempt's own, or stood there at its start
  abbrev pub Hears : ℕ → List (Commit B) → View B → Told → Type 0
  Hears e C v Nothing = Unit {0}
  Hears e C v (Restarted s) = Unit {0}
  Hears e C v (Handed c x) = (v.start ≤ e) × (x ≡ own_or c (get_or (state m σ v.start C) c (pos 0)) v.told)
  Hears e C v (Taken c x) = Unit {0}

  -- Only a helper is broken off
  abbrev pub Breaks : ℕ → Answer → Type 0
  Breaks k GoneOn = Unit {0}
  Breaks k Waiting = Unit {0}
  Breaks k Paused = Unit {0}
  Breaks k BrokenOff = 0 < k
  Breaks k (Committed n) = Unit {0}
  Breaks k TooLong = Unit {0}

  -- All that is to be shown of one step
  pub record Good (g : Shared) (C : List (Commit B)) (k : ℕ) (p : Phase) (v : View B) (u : Out B) (v' : View B) (C' : List (Commit B)) : Type 0 where
    pub shared : Sh u.shared.core C'
    pub mine : Mine u.shared.core u.shared.flag C' k v' u.seat
    pub later : Later g.core C u.shared.core C'
    pub moves : Moves g C k p u C'
    pub flags : (k ≡ 0) ⊎ (u.shared.flag ≡ g.flag)
    pub clears : g.flag ≡ true → u.shared.flag ≡ false → (g.core.number % 2 ≡ 0) × (u.shared.core.number % 2 ≡ 1)
    pub hears : Hears (base g.core.number) C v u.told
    pub breaks : Breaks k u.answer
