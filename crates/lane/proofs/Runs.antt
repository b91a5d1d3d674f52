-- What holds of every run.
use Rattle.std.proofs.Common.{◌≡◌, ℕ, zero, suc, ◌%◌, ◌<◌, ◌≤◌, Bool, true, false, cond, eqb, List, [], ◌∷◌, ◌++◌, length, get_or, replicate, pos, Some, None, sym, refl, ap, ◌∙◌, subst, ⊎_elim, arith}
use mathlib.Core.Bool.{false≢true}
use lib.ListN.{length-replicate}
use Rattle.std.proofs.lemmas.Bool.{eqb-true, eqb-false, eq-eqb, both_ways}
use Rattle.body.specs.declared.body.Body.{Ghosts}
use Rattle.lane.specs.declared.answer.Answer.{Answer}
use Rattle.lane.specs.declared.answer.Answer.TheVariants.{GoneOn, Waiting, Paused, BrokenOff, Committed, TooLong}
use Rattle.body.specs.Serial.{Commit}
use Rattle.lane.specs.declared.told.Told.{Told}
use Rattle.lane.specs.declared.told.Told.TheVariants.{Nothing, Restarted, Handed, Taken}
use Rattle.lane.specs.History.{own_or, Call, seated, stepped, other, Moment, History, number_after, flag_after, body_of, attempt, start_of, commits}
use Rattle.lane.specs.Law.{Opening, Takes}
use Rattle.lane.specs.declared.phase.Way.{Way}
use Rattle.lane.specs.State.{Seat, Core, base}
use Rattle.lane.proofs.Core.{World, Out, to, act, moment, step_of, step_moment, first_phase, seat_of, pause_of, opened, Ran, opens, seats, steps, pauses, refuses}
use Rattle.lane.proofs.Bodies.{Laws}
use Rattle.lane.proofs.Orders.{state}
use Rattle.lane.proofs.Inv.{View, heard, grown, holds, holds_seat, Sh, Waits, Facts, Mine, Moves, quiet, takes, works, Hears, Breaks, Good}
use Rattle.lane.proofs.Steps.{good}
use Rattle.lane.proofs.Frame.{mine_later, mine_quiet, mine_odd}

module _ {B : Type 0} where
  abbrev pub view_of : ℕ → History B → View B
  view_of k h = record { told = attempt k h; start = start_of k h; body = body_of k h }

  -- P of each moment with the history before it
  abbrev pub Each : (Moment B → History B → Type 0) → History B → Type 0
  Each P [] = Unit {0}
  Each P (e ∷ h) = P e h × Each P h

  pub each_more : (P Q : Moment B → History B → Type 0) → ((e : Moment B) (h : History B) → P e h → Q e h) → (h : History B) → Each P h → Each Q h
  each_more P Q f [] a = tt
  each_more P Q f (e ∷ h) a = (f e h a.0, each_more P Q f h a.1)

  pub each_at : (P : Moment B → History B → Type 0) (newer older : History B) (e : Moment B) → Each P (newer ++ (e ∷ older)) → P e older
  each_at P [] older e a = a.0
  each_at P (x ∷ newer) older e a = each_at P newer older e a.1

  -- P of a step, and nothing of other calls
  abbrev pub OfStep : (ℕ → Answer → Told → Type 0) → Call B → Type 0
  OfStep P (seated j b) = Unit {0}
  OfStep P (stepped k a t) = P k a t
  OfStep P other = Unit {0}

  -- How a step changes the views
  view_step : (k : ℕ) (a : Answer) (t : Told) (fl : Bool) (w : ℕ) (h : History B) → view_of k (record { call = stepped k a t; flag = fl; number = w } ∷ h) ≡ heard t (view_of k h)
  view_step k a Nothing fl w h = rw (eq-eqb k k refl)
  view_step k a (Restarted s) fl w h = rw (eq-eqb k k refl)
  view_step k a (Handed c x) fl w h = rw (eq-eqb k k refl)
  view_step k a (Taken c x) fl w h = rw (eq-eqb k k refl)

  view_other : (j k : ℕ) (a : Answer) (t : Told) (fl : Bool) (w : ℕ) (h : History B) → eqb k j ≡ false → view_of j (record { call = stepped k a t; flag = fl; number = w } ∷ h) ≡ view_of j h
  view_other j k a t fl w h e = rw e

  commits_step : (k : ℕ) (a : Answer) (t : Told) (fl : Bool) (w : ℕ) (h : History B) → commits (record { call = stepped k a t; flag = fl; number = w } ∷ h) ≡ grown a (view_of k (record { call = stepped k a t; flag = fl; number = w } ∷ h)) (commits h)
  commits_step k GoneOn t fl w h = refl
  commits_step k Waiting t fl w h = refl
  commits_step k Paused t fl w h = refl
  commits_step k BrokenOff t fl w h = refl
  commits_step k (Committed n) t fl w h = refl
  commits_step k TooLong t fl w h = refl

module _ {B : Type 0} (m : Ghosts B) (o : Opening) where
  -- What was handed by the moment e
  abbrev pub HeardAt : ℕ → List (Commit B) → Moment B → History B → Type 0
  HeardAt x C e h = OfStep (λ k a t. Hears m o.cells x C (view_of k h) t) e.call

  abbrev pub BrokenAt : Moment B → History B → Type 0
  BrokenAt e h = OfStep (λ k a t. Breaks m o.cells k a) e.call

  abbrev pub ReservedAt : Moment B → History B → Type 0
  ReservedAt e h = flag_after h ≡ true → (((k : ℕ) → Takes m o k e h → k ≡ 0) × (e.flag ≡ false → Takes m o 0 e h))

  pub record Inv (h : History B) (w : World B) : Type 0 where
    pub shared : Sh m o.cells w.shared.core (commits h)
    pub seats : (k : ℕ) → Mine m o.cells w.shared.core w.shared.flag (commits h) k (view_of k h) (w.seats k)
    pub one : (j k : ℕ) → holds_seat (w.seats j) ≡ true → holds_seat (w.seats k) ≡ true → j ≡ k
    pub number : number_after o.number h ≡ w.shared.core.number
    pub flag : flag_after h ≡ w.shared.flag
    pub heard : Each (HeardAt (base w.shared.core.number) (commits h)) h
    pub broken : Each BrokenAt h
    pub reserved : Each ReservedAt h

  hears_later : (x x' : ℕ) (C C' : List (Commit B)) (v : View B) (t : Told) → x ≤ x' → ((t : ℕ) → t ≤ x → state m o.cells t C' ≡ state m o.cells t C) → Hears m o.cells x C v t → Hears m o.cells x' C' v t
  hears_later x x' C C' v Nothing l f h = tt
  hears_later x x' C C' v (Restarted s) l f h = tt
  hears_later x x' C C' v (Handed c y) l f h = (omega (arith, h.0), h.1 ∙ ap (λ z. own_or c (get_or z c (pos 0)) v.told) (sym (f v.start h.0)))
  hears_later x x' C C' v (Taken c y) l f h = tt

  heard_later : (x x' : ℕ) (C C' : List (Commit B)) → x ≤ x' → ((t : ℕ) → t ≤ x → state m o.cells t C' ≡ state m o.cells t C) → (e : Moment B) (h : History B) → HeardAt x C e h → HeardAt x' C' e h
  heard_later x x' C C' l f e h a = by e.call a
    where
      by : (c : Call B) → OfStep (λ k a t. Hears m o.cells x C (view_of k h) t) c → OfStep (λ k a t. Hears m o.cells x' C' (view_of k h) t) c
      by (seated j b) a = tt
      by (stepped k a' t) a = hears_later x x' C C' (view_of k h) t l f a
      by other a = tt

  module _ (law : Laws m) where
    -- A step
    module _ (h : History B) (w : World B) (i : Inv h w) (k : ℕ) (s : Seat B) (at : w.seats k ≡ Some s) where
      abbrev u : Out B
      u = act m w.shared k s.work s.phase

      abbrev e : Moment B
      e = step_moment m w k s

      pub done : Good m o.cells w.shared (commits h) k s.phase (view_of k h) u (view_of k (e ∷ h)) (commits (e ∷ h))
      done =
          let f : Facts m o.cells w.shared.core w.shared.flag (commits h) k s.work (view_of k h) s.phase = subst (λ x. Mine m o.cells w.shared.core w.shared.flag (commits h) k (view_of k h) x) at (i.seats k) in
          let a = good m o.cells law w.shared (commits h) i.shared k s.work (view_of k h) s.phase f in
          let b = subst (λ z. Good m o.cells w.shared (commits h) k s.phase (view_of k h) u z (grown u.answer z (commits h))) (sym (view_step k u.answer u.told u.shared.flag u.shared.core.number h)) a in
          subst (λ z. Good m o.cells w.shared (commits h) k s.phase (view_of k h) u (view_of k (e ∷ h)) z) (sym (commits_step k u.answer u.told u.shared.flag u.shared.core.number h)) b

      pub held : holds s.phase ≡ true → holds_seat (w.seats k) ≡ true
      held q = rw at q

      -- Another seat, and the lane
      not_both : (j : ℕ) → (k ≡ j → ⊥) → holds_seat (w.seats j) ≡ true → holds_seat u.seat ≡ true → ⊥
      not_both j ne hj hk = by done.moves
        where
          by : Moves m o.cells w.shared (commits h) k s.phase u (commits (e ∷ h)) → ⊥
          by (quiet q f) = ne (i.one k j (held (f hk)) hj)
          by (takes ev od q r) = let z = mine_odd m o.cells w.shared.core w.shared.flag (commits h) j (view_of j h) (w.seats j) hj (i.seats j) in omega arith
          by (works q od) = ne (i.one k j (held q) hj)

      -- While the flag is set and the lane is free, nobody but the master takes it
      pub kept_even : (k ≡ 0 → ⊥) → w.shared.flag ≡ true → w.shared.core.number % 2 ≡ 0 → u.shared.core.number % 2 ≡ 0
      kept_even ne t y = by done.moves
        where
          by : Moves m o.cells w.shared (commits h) k s.phase u (commits (e ∷ h)) → u.shared.core.number % 2 ≡ 0
          by (quiet q f) = subst (λ (z : Core). z.number % 2 ≡ 0) (sym q.same) y
          by (takes ev od q r) = ⊎_elim (λ b. absurd (both_ways w.shared.flag b t)) (λ b. absurd (ne b)) q
          by (works q od) = absurd (omega arith)

      pub kept_flag : (k ≡ 0 → ⊥) → u.shared.flag ≡ w.shared.flag
      kept_flag ne = ⊎_elim (λ b. absurd (ne b)) (λ b. b) done.flags

      others : (j : ℕ) → (k ≡ j → ⊥) → Mine m o.cells u.shared.core u.shared.flag (commits (e ∷ h)) j (view_of j h) (w.seats j)
      others j ne = by done.moves
        where
          up : j ≡ 0 → w.shared.flag ≡ true → u.shared.flag ≡ true
          up z t = ⊎_elim (λ y. absurd (ne (y ∙ sym z))) (λ y. y ∙ t) done.flags

          by : Moves m o.cells w.shared (commits h) k s.phase u (commits (e ∷ h)) → Mine m o.cells u.shared.core u.shared.flag (commits (e ∷ h)) j (view_of j h) (w.seats j)
          by (quiet q f) = mine_quiet m o.cells w.shared.core u.shared.core w.shared.flag u.shared.flag (commits h) (commits (e ∷ h)) j (view_of j h) up (w.seats j) q (i.seats j)
          by (takes ev od q r) = mine_later m o.cells w.shared.core u.shared.core w.shared.flag u.shared.flag (commits h) (commits (e ∷ h)) j (view_of j h) up (w.seats j) done.later
              (λ z t y. ⊎_elim (λ b. absurd (both_ways w.shared.flag b t)) (λ b. absurd (ne (b ∙ sym z))) q)
              (λ hj. (let z = mine_odd m o.cells w.shared.core w.shared.flag (commits h) j (view_of j h) (w.seats j) hj (i.seats j) in omega arith)) (i.seats j)
          by (works q od) = mine_later m o.cells w.shared.core u.shared.core w.shared.flag u.shared.flag (commits h) (commits (e ∷ h)) j (view_of j h) up (w.seats j) done.later
              (λ z t y. absurd (omega arith))
              (λ hj. ne (i.one k j (held q) hj)) (i.seats j)

      seats_step : (j : ℕ) → Mine m o.cells u.shared.core u.shared.flag (commits (e ∷ h)) j (view_of j (e ∷ h)) (cond (eqb k j) u.seat (w.seats j))
      seats_step j = by (eqb k j) refl
        where
          by : (b : Bool) → eqb k j ≡ b → Mine m o.cells u.shared.core u.shared.flag (commits (e ∷ h)) j (view_of j (e ∷ h)) (cond b u.seat (w.seats j))
          by true q = subst (λ x. Mine m o.cells u.shared.core u.shared.flag (commits (e ∷ h)) x (view_of x (e ∷ h)) u.seat) (eqb-true k j q) done.mine
          by false q = subst (λ z. Mine m o.cells u.shared.core u.shared.flag (commits (e ∷ h)) j z (w.seats j)) (sym (view_other j k u.answer u.told u.shared.flag u.shared.core.number h q)) (others j (eqb-false k j q))

      one_step : (j l : ℕ) → holds_seat (cond (eqb k j) u.seat (w.seats j)) ≡ true → holds_seat (cond (eqb k l) u.seat (w.seats l)) ≡ true → j ≡ l
      one_step j l = by (eqb k j) refl (eqb k l) refl
        where
          by : (b : Bool) → eqb k j ≡ b → (c : Bool) → eqb k l ≡ c → holds_seat (cond b u.seat (w.seats j)) ≡ true → holds_seat (cond c u.seat (w.seats l)) ≡ true → j ≡ l
          by true p true q x y = sym (eqb-true k j p) ∙ eqb-true k l q
          by true p false q x y = absurd (not_both l (eqb-false k l q) y x)
          by false p true q x y = absurd (not_both j (eqb-false k j p) x y)
          by false p false q x y = i.one j l x y

      reserved_step : ReservedAt e h
      reserved_step t = (λ j q. takes_by j q done.moves, λ c. clears c)
        where
          t' : w.shared.flag ≡ true
          t' = sym i.flag ∙ t

          takes_by : (j : ℕ) → Takes m o j e h → Moves m o.cells w.shared (commits h) k s.phase u (commits (e ∷ h)) → j ≡ 0
          takes_by j q (quiet y f) = absurd (let z : u.shared.core.number ≡ w.shared.core.number = ap (λ (x : Core). x.number) y.same in omega (arith, q.1, q.2, i.number))
          takes_by j q (takes ev od y r) =
              let c = q.0.2 in
              let z : k ≡ j = same_seat u.answer u.told q.0.0 q.0.1 c in
              ⊎_elim (λ b. absurd (both_ways w.shared.flag b t')) (λ b. sym z ∙ b) y
            where
              same_seat : {j : ℕ} (a : Answer) (r : Told) (a' : Answer) (r' : Told) → ◌≡◌ {A = Call B} (stepped k a r) (stepped j a' r') → k ≡ j
              same_seat a r a' r' c = cc
          takes_by j q (works y od) = absurd (omega (arith, q.1, q.2, i.number))

          clears : u.shared.flag ≡ false → Takes m o 0 e h
          clears c =
              let z = done.clears t' c in
              let y : k ≡ 0 = ⊎_elim (λ b. b) (λ b. absurd (both_ways u.shared.flag c (b ∙ t'))) done.flags in
              ((u.answer, u.told, ap {B = Call B} (λ x. stepped x u.answer u.told) y), rw i.number z.0, z.1)

      pub inv_step : Inv (e ∷ h) (step_of m w k s)
      inv_step = record {
        shared = done.shared;
        seats = seats_step;
        one = one_step;
        number = refl;
        flag = refl;
        heard = (hears_later (base w.shared.core.number) (base u.shared.core.number) (commits h) (commits (e ∷ h)) (view_of k h) u.told done.later.grows done.later.states done.hears, each_more _ _ (heard_later (base w.shared.core.number) (base u.shared.core.number) (commits h) (commits (e ∷ h)) done.later.grows done.later.states) h i.heard);
        broken = (done.breaks, i.broken);
        reserved = (reserved_step, i.reserved);
      }

    -- A body is seated at an idle seat
    module _ (h : History B) (w : World B) (i : Inv h w) (k : ℕ) (y : Way) (b : B) (idle : w.seats k ≡ None) (fits : m.reach b ≤ length w.shared.core.cells) where
      abbrev d : Moment B
      d = moment m (seated k b) w.shared

      abbrev new : Seat B
      new = to (first_phase k) (record { body = b; way = y; start = 0; reads = []; writes = [] })

      view_seated : (j : ℕ) → eqb k j ≡ false → view_of j (d ∷ h) ≡ view_of j h
      view_seated j e = rw e

      body_seated : body_of k (d ∷ h) ≡ Some b
      body_seated = rw (eq-eqb k k refl)

      waits_new : Waits m o.cells new.work (body_of k (d ∷ h))
      waits_new = record { who = b; seated = body_seated; same = refl; fits = omega (arith, i.shared.long) }

      mine_new : Mine m o.cells w.shared.core w.shared.flag (commits h) k (view_of k (d ∷ h)) (Some new)
      mine_new = by k refl
        where
          by : (j : ℕ) → k ≡ j → Facts m o.cells w.shared.core w.shared.flag (commits h) k new.work (view_of k (d ∷ h)) (first_phase j)
          by zero e = (e, waits_new)
          by (suc j) e = (omega arith, waits_new)

      free_new : (j : ℕ) → holds (first_phase j) ≡ true → ⊥
      free_new zero e = false≢true e
      free_new (suc j) e = false≢true e

      pub inv_seat : Inv (d ∷ h) (seat_of m w k y b)
      inv_seat = record {
        shared = i.shared;
        seats = λ j. seats_new j (eqb k j) refl;
        one = λ j l. one_new j l (eqb k j) refl (eqb k l) refl;
        number = refl;
        flag = refl;
        heard = (tt, i.heard);
        broken = (tt, i.broken);
        reserved = (λ t. (λ j q. absurd (clash j q.0.0 q.0.1 q.0.2), λ c. absurd (both_ways w.shared.flag c (sym i.flag ∙ t))), i.reserved);
      }
        where
          clash : (j : ℕ) (a : Answer) (t : Told) → ◌≡◌ {A = Call B} (seated k b) (stepped j a t) → ⊥
          clash j a t c = cc

          seats_new : (j : ℕ) (c : Bool) → eqb k j ≡ c → Mine m o.cells w.shared.core w.shared.flag (commits h) j (view_of j (d ∷ h)) (cond c (Some new) (w.seats j))
          seats_new j true q = subst (λ x. Mine m o.cells w.shared.core w.shared.flag (commits h) x (view_of x (d ∷ h)) (Some new)) (eqb-true k j q) mine_new
          seats_new j false q = subst (λ z. Mine m o.cells w.shared.core w.shared.flag (commits h) j z (w.seats j)) (sym (view_seated j q)) (i.seats j)

          one_new : (j l : ℕ) (c : Bool) → eqb k j ≡ c → (c' : Bool) → eqb k l ≡ c' → holds_seat (cond c (Some new) (w.seats j)) ≡ true → holds_seat (cond c' (Some new) (w.seats l)) ≡ true → j ≡ l
          one_new j l true p c' q x z = absurd (free_new k x)
          one_new j l false p true q x z = absurd (free_new k z)
          one_new j l false p false q x z = i.one j l x z

    -- Anything else
    pub inv_other : (h : History B) (w : World B) → Inv h w → (p : Bool) → Inv (moment m other w.shared ∷ h) (pause_of m p w)
    inv_other h w i p = record {
      shared = i.shared;
      seats = i.seats;
      one = i.one;
      number = refl;
      flag = refl;
      heard = (tt, i.heard);
      broken = (tt, i.broken);
      reserved = (λ t. (λ j q. absurd (clash j q.0.0 q.0.1 q.0.2), λ c. absurd (both_ways w.shared.flag c (sym i.flag ∙ t))), i.reserved);
    }
      where
        clash : (j : ℕ) (a : Answer) (t : Told) → ◌≡◌ {A = Call B} other (stepped j a t) → ⊥
        clash j a t c = cc

    marks_none : (n i : ℕ) → ◌≡◌ {A = ℕ} (get_or (replicate n 0) i 0) 0
    marks_none zero i = refl
    marks_none (suc n) zero = refl
    marks_none (suc n) (suc i) = marks_none n i

    pub inv_open : (slots : ℕ) → 0 < slots → o.number % 2 ≡ 0 → Inv [] (opened m o slots)
    inv_open slots h ev = record {
      shared = record { numbers = tt; high = λ c. omega (arith, marks_none slots (c % length {A = ℕ} (replicate slots 0))); free = λ _. refl; marked = λ c t l r. refl; agrees = tt; long = refl; some = rw length-replicate h };
      seats = λ k. tt;
      one = λ j k x y. absurd (false≢true x);
      number = refl;
      flag = refl;
      heard = tt;
      broken = tt;
      reserved = tt;
    }

    pub inv : {h : History B} {w : World B} → Ran m o h w → Inv h w
    inv (opens slots l e) = inv_open slots l e
    inv (seats h w k y b r idle fits) = inv_seat h w (inv r) k y b idle fits
    inv (steps h w k s r at) = inv_step h w (inv r) k s at
    inv (pauses h w p r) = inv_other h w (inv r) p
    inv (refuses h w r) = inv_other h w (inv r) w.shared.paused
