-- How soon the master commits, once it has reserved a free lane.
use Rattle.std.proofs.Common.{◌≡◌, ℕ, ◌+◌, ◌*◌, ◌%◌, ◌<◌, ◌≤◌, Bool, true, false, cond, eqb, ◌⊎◌, List, [], ◌∷◌, ◌++◌, get_or, ℤ, pos, Some, None, Option, sym, refl, ap, ◌∙◌, subst, inl, inr, ⊎_elim, zero-add, arith}
use mathlib.Core.Bool.{false≢true}
use Rattle.std.proofs.lemmas.Bool.{eqb-true, eqb-false, cond_both}
use Rattle.body.specs.declared.body.Body.{Ghosts}
use Rattle.body.specs.declared.request.Request.{Request}
use Rattle.body.specs.declared.request.Request.TheVariants.{Read, Write, End}
use Rattle.body.specs.Meaning.{ReadTold, WriteTaken}
use Rattle.lane.specs.declared.answer.Answer.TheVariants.{Committed}
use Rattle.body.specs.Serial.{Commit}
use Rattle.lane.specs.declared.told.Told.{Told}
use Rattle.lane.specs.History.{Call, seated, stepped, other, Moment, History, number_after, flag_after, body_of, commits, steps_of}
use Rattle.lane.specs.Law.{Opening}
use Rattle.lane.specs.declared.phase.Phase.{Phase}
use Rattle.lane.specs.declared.phase.Phase.TheVariants.{Reserve, MasterLook, Take, MasterRun, Put, Begin, Run, Check, Wait, Look, Prevalidate, Swap, Validate, Mark, Cell, Release, LetGo, Quit, Leave}
use Rattle.lane.specs.State.{Work, Seat, Shared}
use Rattle.lane.specs.Phases.{master_run_step, step_at}
use Rattle.lane.specs.declared.step.Step.{Step}
use Rattle.lane.proofs.Core.{World, Out, to, act, moment, step_of, step_moment, first_phase, seat_of, pause_of, Ran, opens, seats, steps, pauses, refuses, out_of}
use Rattle.lane.proofs.Bodies.{Laws}
use Rattle.lane.proofs.Inv.{View, Facts}
use Rattle.lane.proofs.Counts.{facts, steps_more}
use Rattle.lane.proofs.Runs.{view_of, Inv, inv, kept_even, kept_flag}

-- Whether a phase has the flag up
abbrev pub reserving : Phase → Bool
reserving Reserve = false
reserving MasterLook = true
reserving Take = true
reserving MasterRun = false
reserving (Put c v) = false
reserving Begin = false
reserving Run = false
reserving (Check c v) = false
reserving Wait = false
reserving (Look p) = false
reserving (Prevalidate c i) = false
reserving (Swap p c) = false
reserving (Validate i) = false
reserving (Mark i) = false
reserving (Cell i) = false
reserving Release = false
reserving LetGo = false
reserving Quit = false
reserving Leave = false

abbrev pub reserving_seat : {B : Type 0} → Option (Seat B) → Bool
reserving_seat None = false
reserving_seat (Some s) = reserving s.phase

module _ {B : Type 0} (m : Ghosts B) where
  -- The master r steps after it had reserved a free lane
  abbrev pub Prog : Shared → Work B → B → ℕ → Phase → Type 0
  Prog g s b r Reserve = ⊥
  Prog g s b r MasterLook = (r ≡ 0) × (g.core.number % 2 ≡ 0) × (g.flag ≡ true)
  Prog g s b r Take = r ≤ 1
  Prog g s b r MasterRun = r + 2 * m.left s.body ≤ 2 * m.len b + 2
  Prog g s b r (Put c v) = r + 2 * m.left s.body ≤ 2 * m.len b + 3
  Prog g s b r Begin = ⊥
  Prog g s b r Run = ⊥
  Prog g s b r (Check c v) = ⊥
  Prog g s b r Wait = ⊥
  Prog g s b r (Look p) = ⊥
  Prog g s b r (Prevalidate c i) = ⊥
  Prog g s b r (Swap p c) = ⊥
  Prog g s b r (Validate i) = ⊥
  Prog g s b r (Mark i) = ⊥
  Prog g s b r (Cell i) = ⊥
  Prog g s b r Release = ⊥
  Prog g s b r LetGo = ⊥
  Prog g s b r Quit = ⊥
  Prog g s b r Leave = ⊥

  abbrev pub Progs : Shared → B → ℕ → Option (Seat B) → Type 0
  Progs g b r None = ⊥
  Progs g b r (Some s) = Prog g s.work b r s.phase

  module _ (σ : List ℤ) (law : Laws m) (g : Shared) (C : List (Commit B)) (k : ℕ) (s : Work B) (v : View B) where
    abbrev F : Phase → Type 0
    F p = Facts m σ g.core g.flag C k s v p

    -- The flag is up only while the master is about to take the lane
    pub up_act : (p : Phase) → k ≡ 0 → F p → (g.flag ≡ true → reserving p ≡ true) → (act m g k s p).shared.flag ≡ true → reserving_seat (act m g k s p).seat ≡ true
    up_act Reserve z f i = cond_both g.paused _ _ (λ z. (out_of m g k s z).shared.flag ≡ true → reserving_seat (out_of m g k s z).seat ≡ true) (λ e. i) (λ e t. refl)
    up_act MasterLook z f i = cond_both (eqb (g.core.number % 2) 1) _ _ (λ z. (out_of m g k s z).shared.flag ≡ true → reserving_seat (out_of m g k s z).seat ≡ true) (λ e t. refl) (λ e t. refl)
    up_act Take z f i = λ t. absurd (false≢true t)
    up_act MasterRun z f i = by (m.asks s.body)
      where
        by : (q : Request) → (out_of m g k s (master_run_step g.core.number g.core.cells q)).shared.flag ≡ true → reserving_seat (out_of m g k s (master_run_step g.core.number g.core.cells q)).seat ≡ true
        by (Read c) = i
        by (Write c x) = i
        by End = i
    up_act (Put c x) z f i = i
    up_act Begin z f i = absurd (omega (arith, f.0))
    up_act Run z f i = absurd (omega (arith, f.helper))
    up_act (Check c x) z f i = absurd (omega (arith, f.0.helper))
    up_act Wait z f i = absurd (omega (arith, f.0.helper))
    up_act (Look p) z f i = absurd (omega (arith, f.0.helper))
    up_act (Prevalidate c j) z f i = absurd (omega (arith, f.0.helper))
    up_act (Swap p c) z f i = absurd (omega (arith, f.0.helper))
    up_act (Validate j) z f i = absurd (omega (arith, f.0.helper))
    up_act (Mark j) z f i = absurd (omega (arith, f.0.helper))
    up_act (Cell j) z f i = absurd (omega (arith, f.0.helper))
    up_act Release z f i = absurd (omega (arith, f.0.helper))
    up_act LetGo z f i = absurd (omega (arith, f.0))
    up_act Quit z f i = absurd (omega (arith, f.0))
    up_act Leave z f i = absurd (omega arith)

    -- A step of the master brings it nearer, or is the commit
    abbrev Nears : B → ℕ → Step → Type 0
    Nears b r z = ((n : ℕ) × (z.answer ≡ Committed n)) ⊎ Progs (out_of m g k s z).shared b (1 + r) (out_of m g k s z).seat

    pub nears : (p : Phase) (b : B) (r : ℕ) → v.body ≡ Some b → F p → Prog g s b r p → Nears b r (step_at m g k s p)
    nears Reserve b r e f q = absurd q
    nears MasterLook b r e f q = cond_both (eqb (g.core.number % 2) 1) _ _ (Nears b r) (λ t. absurd (omega (arith, eqb-true (g.core.number % 2) 1 t, q.1))) (λ t. inr (omega (arith, q.0)))
    nears Take b r e f q =
        let w : f.1.who ≡ b = some_same f.1.seated e in
        let l : m.left (m.begin s.body) ≤ m.len b = subst (λ z. m.left z ≤ m.len b) (sym f.1.same) (subst (λ z. m.left (m.begin z) ≤ m.len b) (sym w) (law.short b)) in
        inr (omega arith)
      where
        some_same : {x : Option B} {a c : B} → x ≡ Some a → x ≡ Some c → a ≡ c
        some_same y z = cc
    nears MasterRun b r e f q = by (m.asks s.body) refl
      where
        by : (a : Request) → m.asks s.body ≡ a → Nears b r (master_run_step g.core.number g.core.cells a)
        by (Read c) h =
            let x = get_or g.core.cells c (pos 0) in
            let l : m.left (m.told s.body x) < m.left s.body = subst (ReadTold m.left s.body (m.told s.body x)) h (law.reads s.body x) in
            inr (omega arith)
        by (Write c x) h = inr (omega arith)
        by End h = inl (g.core.number, refl)
    nears (Put c x) b r e f q =
        let l : m.left (m.taken s.body) < m.left s.body = subst (WriteTaken m.left s.body (m.taken s.body)) f.1 (law.writes s.body) in
        inr (omega arith)
    nears Begin b r e f q = absurd q
    nears Run b r e f q = absurd q
    nears (Check c x) b r e f q = absurd q
    nears Wait b r e f q = absurd q
    nears (Look p) b r e f q = absurd q
    nears (Prevalidate c i) b r e f q = absurd q
    nears (Swap p c) b r e f q = absurd q
    nears (Validate i) b r e f q = absurd q
    nears (Mark i) b r e f q = absurd q
    nears (Cell i) b r e f q = absurd q
    nears Release b r e f q = absurd q
    nears LetGo b r e f q = absurd q
    nears Quit b r e f q = absurd q
    nears Leave b r e f q = absurd q

    pub prog_few : (p : Phase) (b : B) (r : ℕ) → F p → Prog g s b r p → r ≤ 2 * m.len b + 2
    prog_few Reserve b r f q = absurd q
    prog_few MasterLook b r f q = omega (arith, q.0)
    prog_few Take b r f q = omega arith
    prog_few MasterRun b r f q = omega arith
    prog_few (Put c x) b r f q =
        let l : m.left (m.taken s.body) < m.left s.body = subst (WriteTaken m.left s.body (m.taken s.body)) f.1 (law.writes s.body) in
        omega arith
    prog_few Begin b r f q = absurd q
    prog_few Run b r f q = absurd q
    prog_few (Check c x) b r f q = absurd q
    prog_few Wait b r f q = absurd q
    prog_few (Look p) b r f q = absurd q
    prog_few (Prevalidate c i) b r f q = absurd q
    prog_few (Swap p c) b r f q = absurd q
    prog_few (Validate i) b r f q = absurd q
    prog_few (Mark i) b r f q = absurd q
    prog_few (Cell i) b r f q = absurd q
    prog_few Release b r f q = absurd q
    prog_few LetGo b r f q = absurd q
    prog_few Quit b r f q = absurd q
    prog_few Leave b r f q = absurd q

  -- Where it begins
  prog_start : (g : Shared) (s : Work B) (b : B) (p : Phase) → reserving p ≡ true → g.flag ≡ true → g.core.number % 2 ≡ 0 → Prog g s b 0 p
  prog_start g s b Reserve h t e = absurd (false≢true h)
  prog_start g s b MasterLook h t e = (refl, e, t)
  prog_start g s b Take h t e = omega arith
  prog_start g s b MasterRun h t e = absurd (false≢true h)
  prog_start g s b (Put c x) h t e = absurd (false≢true h)
  prog_start g s b Begin h t e = absurd (false≢true h)
  prog_start g s b Run h t e = absurd (false≢true h)
  prog_start g s b (Check c x) h t e = absurd (false≢true h)
  prog_start g s b Wait h t e = absurd (false≢true h)
  prog_start g s b (Look p) h t e = absurd (false≢true h)
  prog_start g s b (Prevalidate c i) h t e = absurd (false≢true h)
  prog_start g s b (Swap p c) h t e = absurd (false≢true h)
  prog_start g s b (Validate i) h t e = absurd (false≢true h)
  prog_start g s b (Mark i) h t e = absurd (false≢true h)
  prog_start g s b (Cell i) h t e = absurd (false≢true h)
  prog_start g s b Release h t e = absurd (false≢true h)
  prog_start g s b LetGo h t e = absurd (false≢true h)
  prog_start g s b Quit h t e = absurd (false≢true h)
  prog_start g s b Leave h t e = absurd (false≢true h)

  progs_start : (g : Shared) (b : B) (x : Option (Seat B)) → reserving_seat x ≡ true → g.flag ≡ true → g.core.number % 2 ≡ 0 → Progs g b 0 x
  progs_start g b None h t e = absurd (false≢true h)
  progs_start g b (Some s) h t e = prog_start g s.work b s.phase h t e

  -- Steps of others
  prog_others : (g g' : Shared) (s : Work B) (b : B) (r : ℕ) → (g.flag ≡ true → g.core.number % 2 ≡ 0 → (g'.core.number % 2 ≡ 0) × (g'.flag ≡ true)) → (p : Phase) → Prog g s b r p → Prog g' s b r p
  prog_others g g' s b r f Reserve q = q
  prog_others g g' s b r f MasterLook q = (q.0, (f q.2 q.1).0, (f q.2 q.1).1)
  prog_others g g' s b r f Take q = q
  prog_others g g' s b r f MasterRun q = q
  prog_others g g' s b r f (Put c x) q = q
  prog_others g g' s b r f Begin q = q
  prog_others g g' s b r f Run q = q
  prog_others g g' s b r f (Check c x) q = q
  prog_others g g' s b r f Wait q = q
  prog_others g g' s b r f (Look p) q = q
  prog_others g g' s b r f (Prevalidate c i) q = q
  prog_others g g' s b r f (Swap p c) q = q
  prog_others g g' s b r f (Validate i) q = q
  prog_others g g' s b r f (Mark i) q = q
  prog_others g g' s b r f (Cell i) q = q
  prog_others g g' s b r f Release q = q
  prog_others g g' s b r f LetGo q = q
  prog_others g g' s b r f Quit q = q
  prog_others g g' s b r f Leave q = q

  progs_others : (g g' : Shared) (b : B) (r : ℕ) (x : Option (Seat B)) → (g.flag ≡ true → g.core.number % 2 ≡ 0 → (g'.core.number % 2 ≡ 0) × (g'.flag ≡ true)) → Progs g b r x → Progs g' b r x
  progs_others g g' b r None f q = q
  progs_others g g' b r (Some s) f q = prog_others g g' s.work b r f s.phase q

module _ {B : Type 0} (m : Ghosts B) (o : Opening) (law : Laws m) where
  abbrev Up : World B → Type 0
  Up w = w.shared.flag ≡ true → reserving_seat (w.seats 0) ≡ true

  up : {h : History B} {w : World B} → Ran m o h w → Up w
  up (opens slots l e) t = absurd (false≢true t)
  up (seats h w k y b r idle fits) t = by (up r t) (eqb k 0) refl
    where
      by : reserving_seat (w.seats 0) ≡ true → (c : Bool) → eqb k 0 ≡ c → reserving_seat (cond c (Some (to (first_phase k) (record { body = b; way = y; start = 0; reads = []; writes = [] }))) (w.seats 0)) ≡ true
      by ih true q = absurd (false≢true (subst (λ z. reserving_seat z ≡ true) (subst (λ z. w.seats z ≡ None) (eqb-true k 0 q) idle) ih))
      by ih false q = ih
  up (steps h w k s r at) t = by (λ t'. up r t') (eqb k 0) refl
    where
      i : Inv m o h w
      i = inv m o law r

      by : (w.shared.flag ≡ true → reserving_seat (w.seats 0) ≡ true) → (c : Bool) → eqb k 0 ≡ c → reserving_seat (cond c (act m w.shared k s.work s.phase).seat (w.seats 0)) ≡ true
      by ih true q = up_act m o.cells law w.shared (commits h) k s.work (view_of k h) s.phase (eqb-true k 0 q) (facts m o law h w i k s at) (λ t'. subst (λ z. reserving_seat z ≡ true) (subst (λ z. w.seats z ≡ Some s) (eqb-true k 0 q) at) (ih t')) t
      by ih false q = ih (sym (kept_flag m o law h w i k s at (eqb-false k 0 q)) ∙ t)
  up (pauses h w p r) t = up r t
  up (refuses h w r) t = up r t

  abbrev pub NoCommit : History B → Type 0
  NoCommit newer = (new old : History B) (f : Moment B) (n : ℕ) (t : Told) → newer ≡ new ++ (f ∷ old) → f.call ≡ stepped 0 (Committed n) t → ⊥

  abbrev pub Soon : History B → World B → Type 0
  Soon h w = (newer older : History B) (b : B) → h ≡ newer ++ older → flag_after older ≡ true → number_after o.number older % 2 ≡ 0 → body_of 0 older ≡ Some b → NoCommit newer → (body_of 0 h ≡ Some b) × Progs m w.shared b (steps_of 0 newer) (w.seats 0)

  soon_here : (h : History B) (w : World B) → Inv m o h w → Up w → (older : History B) (b : B) → h ≡ older → flag_after older ≡ true → number_after o.number older % 2 ≡ 0 → body_of 0 older ≡ Some b → (body_of 0 h ≡ Some b) × Progs m w.shared b 0 (w.seats 0)
  soon_here h w i p older b q t e s =
      let t' : w.shared.flag ≡ true = sym i.flag ∙ ap (λ z. flag_after z) q ∙ t in
      let n : number_after o.number h ≡ number_after o.number older = ap (λ z. number_after o.number z) q in
      (ap (λ z. body_of 0 z) q ∙ s, progs_start m w.shared b (w.seats 0) (p t') t' (let a = i.number in omega arith))

  soon_more : (h : History B) (w w' : World B) (x : Moment B) → Inv m o (x ∷ h) w' → Up w' → Soon h w
      → ((b : B) (r : ℕ) → ((n : ℕ) (t : Told) → x.call ≡ stepped 0 (Committed n) t → ⊥) → body_of 0 h ≡ Some b → Progs m w.shared b r (w.seats 0) → (body_of 0 (x ∷ h) ≡ Some b) × Progs m w'.shared b (steps_of 0 (x ∷ []) + r) (w'.seats 0))
      → Soon (x ∷ h) w'
  soon_more h w w' x i p so on [] older b q t e s nc = soon_here (x ∷ h) w' i p older b q t e s
  soon_more h w w' x i p so on (y ∷ newer) older b q t e s nc =
      let y≡ : x ≡ y = cc in
      let h≡ : h ≡ newer ++ older = cc in
      let r = so newer older b h≡ t e s (λ new old f n t' c. nc (y ∷ new) old f n t' (ap (λ z. y ∷ z) c)) in
      let a = on b (steps_of 0 newer) (λ n t' c. nc [] newer y n t' refl (ap (λ z. z.call) (sym y≡) ∙ c)) r.0 r.1 in
      let z : steps_of 0 (x ∷ []) + steps_of 0 newer ≡ steps_of 0 (y ∷ newer) = sym (steps_more 0 x newer) ∙ ap (λ z. steps_of 0 (z ∷ newer)) y≡ in
      (a.0, subst (λ z. Progs m w'.shared b z (w'.seats 0)) z a.1)

  pub soon : {h : History B} {w : World B} → Ran m o h w → Soon h w
  soon (opens slots l ev) = λ newer older b q t. none newer older q t
    where
      none : {X : Type 0} (newer older : History B) → [] ≡ newer ++ older → flag_after older ≡ true → X
      none [] older q t = absurd (false≢true (ap (λ z. flag_after z) q ∙ t))
      none (x ∷ newer) older q t = cc
  soon (seats h w k y b r idle fits) = soon_more h w (seat_of m w k y b) (moment m (seated k b) w.shared) (inv m o law (seats h w k y b r idle fits)) (up (seats h w k y b r idle fits)) (soon r) (λ c n _ bo q. on c n bo q (eqb k 0) refl)
    where
      on : (c : B) (n : ℕ) → body_of 0 h ≡ Some c → Progs m w.shared c n (w.seats 0) → (d : Bool) → eqb k 0 ≡ d → (cond (eqb k 0) (Some b) (body_of 0 h) ≡ Some c) × Progs m w.shared c (0 + n) (cond (eqb k 0) (Some (to (first_phase k) (record { body = b; way = y; start = 0; reads = []; writes = [] }))) (w.seats 0))
      on c n bo q true e = absurd (subst (λ z. Progs m w.shared c n z) (subst (λ z. w.seats z ≡ None) (eqb-true k 0 e) idle) q)
      on c n bo q false e = rw (e, zero-add) (bo, q)
  soon (steps h w k s r at) = soon_more h w (step_of m w k s) (step_moment m w k s) (inv m o law (steps h w k s r at)) (up (steps h w k s r at)) (soon r) (λ c n nc bo q. (bo, on c n nc bo q (eqb k 0) refl))
    where
      u : Out B
      u = act m w.shared k s.work s.phase

      i : Inv m o h w
      i = inv m o law r

      on : (c : B) (n : ℕ) → ((n : ℕ) (t : Told) → (step_moment m w k s).call ≡ stepped 0 (Committed n) t → ⊥) → body_of 0 h ≡ Some c → Progs m w.shared c n (w.seats 0) → (d : Bool) → eqb k 0 ≡ d → Progs m (step_of m w k s).shared c (cond (eqb k 0) (1 + 0) 0 + n) (cond (eqb k 0) (act m w.shared k s.work s.phase).seat (w.seats 0))
      on c n nc bo q true e =
          let z : k ≡ 0 = eqb-true k 0 e in
          let at' : w.seats 0 ≡ Some s = subst (λ z. w.seats z ≡ Some s) z at in
          let bo' : body_of k h ≡ Some c = subst (λ z. body_of z h ≡ Some c) (sym z) bo in
          ⊎_elim
          (λ a. absurd (nc a.0 (act m w.shared k s.work s.phase).told (committed z a.0 a.1)))
          (λ a. rw e a)
          (nears m o.cells law w.shared (commits h) k s.work (view_of k h) s.phase c n bo' (facts m o law h w i k s at) (subst (λ z. Progs m w.shared c n z) at' q))
        where
          committed : k ≡ 0 → (p : ℕ) → (act m w.shared k s.work s.phase).answer ≡ Committed p → (step_moment m w k s).call ≡ stepped 0 (Committed p) (act m w.shared k s.work s.phase).told
          committed z p a = ap {B = Call B} (λ x. stepped x (act m w.shared k s.work s.phase).answer (act m w.shared k s.work s.phase).told) z ∙ ap {B = Call B} (λ x. stepped 0 x (act m w.shared k s.work s.phase).told) a
      on c n nc bo q false e = rw (e, zero-add) (progs_others m w.shared (act m w.shared k s.work s.phase).shared c n (w.seats 0) (λ t ev. (kept_even m o law h w i k s at (eqb-false k 0 e) t ev, kept_flag m o law h w i k s at (eqb-false k 0 e) ∙ t)) q)
  soon (pauses h w p r) = soon_more h w (pause_of m p w) (moment m other w.shared) (inv m o law (pauses h w p r)) (up (pauses h w p r)) (soon r) (λ c n _ bo q. (bo, rw zero-add (progs_others m w.shared (pause_of m p w).shared c n (w.seats 0) (λ t ev. (ev, t)) q)))
  soon (refuses h w r) = soon_more h w w (moment m other w.shared) (inv m o law (refuses h w r)) (up (refuses h w r)) (soon r) (λ c n _ bo q. (bo, rw zero-add q))
