-- A book with its lists, seen as the law's proof sees it: each call of the book is a call of that machine.
use Rattle.std.proofs.Common.{◌≡◌, ℕ, zero, suc, ◌+◌, ◌-◌, ◌*◌, ◌<◌, ◌≤◌, Bool, true, false, cond, ◌||◌, eqb, ltb, ◌≢◌, ◌⊎◌, List, [], ◌∷◌, ◌++◌, length, get_or, set, Some, None, Option, sym, refl, ap, ◌∙◌, subst, inr, add-one, arith, length-append}
use mathlib.Core.Path.{fun_ext}
use mathlib.Core.Bool.{false≢true}
use Rattle.std.proofs.lemmas.Bool.{eqb-true, eqb-false, eq-eqb, ltb-true, ltb-false, cond_both}
use Rattle.body.specs.declared.body.Body.{Ghosts}
use Rattle.lane.specs.declared.phase.Phase.{Phase}
use Rattle.lane.specs.declared.refusal.SeatRefusal.{SeatRefusal}
use Rattle.lane.specs.declared.seated.Seated.{Seated}
use Rattle.lane.specs.declared.step.LogChange.{LogChange}
use Rattle.lane.specs.declared.step.LogChange.TheVariants.{Same, Emptied, Noted, Entered}
use Rattle.lane.specs.declared.step.Step.{Step}
use Rattle.lane.specs.declared.written.Written.{Written}
use Rattle.lane.specs.Calls as calls
use Rattle.lane.specs.Calls.{After, Opened, opening, open_refusal, open_world, way_of, newly_seated, taken_way, seat_refusal, seat_world, seat_by, seat_call, seated_to, same_sizes, has_room, record_of, moved, seated_after, journal_after, step_world, step_now, can_step, step_did, step_by, step_call, pause_call, resume_call}
use Rattle.lane.specs.Effects.{reads_after, writes_after, seat_to, seat_after, work_after, body_after}
use Rattle.lane.specs.History.{seated, History}
use Rattle.lane.specs.Law.{Opening}
use Rattle.lane.specs.Logs.{has, mem, enter, place_by, itself, cell_of, place, most_reads, most_writes}
use Rattle.lane.specs.Sane.{masters, Fair, FairSeat, Sane}
use Rattle.lane.specs.State.{Seat}
use Rattle.lane.specs.Worlds.{World, stretch, reads_from, writes_from, read_log, write_log, work_of, reads_used, writes_used, reads_laid, writes_laid}
use Rattle.lane.proofs.Core as core
use Rattle.lane.proofs.Core.{to, put}
use Rattle.lane.proofs.Sanity.{get_d_set, Lent, stretch_fits, length_reads, length_writes, st, Accepted, accepted}
use Rattle.lane.proofs.Steady.{Steady, Plain}
use Rattle.lane.proofs.Stretched.{stretch_push, stretch_set, stretch_other, apart, holds_place, place_few, noted_within, entered_within, enter_new, enter_old}

-- A cell that is entered again in its place changes nothing.
set_again : (c : ℕ) (R : List ℕ) → mem c R ≡ true → set R (place_by itself c R) c ≡ R
set_again c [] h = absurd (false≢true h)
set_again c (x ∷ R) h = by (λ q. set_again c R q) (eqb x c) refl h
  where
    by : (mem c R ≡ true → set R (place_by itself c R) c ≡ R) → (b : Bool) → eqb x c ≡ b → (b || mem c R) ≡ true → set (x ∷ R) (cond b 0 (suc (place_by itself c R))) c ≡ x ∷ R
    by ih true e q = ap (λ z. z ∷ R) (sym (eqb-true x c e))
    by ih false e q = ap (λ z. x ∷ z) (ih q)

-- A long list after a write to helper k's stretch: what the stretch holds, and that no other changes ----------------

module _ (l : List ℕ) (p n : ℕ) (R : List ℕ) (is : R ≡ stretch l p n) (len : length R ≡ n) where
  pub reads_own : (c : LogChange) → length (reads_after c R) ≤ most_reads → p + most_reads ≤ length l → stretch (reads_laid c R p l) p (reads_used c R n) ≡ reads_after c R
  reads_own Same h f = sym is
  reads_own Emptied h f = refl
  reads_own (Noted c) h f = by (mem c R) refl
    where
      by : (b : Bool) → mem c R ≡ b → stretch (set l (p + place_by itself c R) c) p (cond b n (n + 1)) ≡ cond b R (R ++ (c ∷ []))
      by true e =
          let q : place_by itself c R < n = subst (λ z. place_by itself c R < z) len (ltb-true _ _ (sym (holds_place itself c R) ∙ e)) in
          stretch_set l p n (place_by itself c R) c q ∙ ap (λ z. set z (place_by itself c R) c) (sym is) ∙ set_again c R e
      by false e =
          let a : n ≤ place_by itself c R = subst (λ z. z ≤ place_by itself c R) len (ltb-false _ _ (sym (holds_place itself c R) ∙ e)) in
          let b : place_by itself c R ≡ n = omega (arith, place_few itself c R, len) in
          let r : n < 64 =
          (let z : length (cond (mem c R) R (R ++ (c ∷ []))) ≤ 64 = h in
          let y : length (R ++ (c ∷ [])) ≤ 64 = subst (λ b. length (cond b R (R ++ (c ∷ []))) ≤ 64) e z in
          let x = length-append R (c ∷ []) in omega (arith, len)) in
          rw (b, add-one) (stretch_push l p n c (omega arith) ∙ ap (λ z. z ++ (c ∷ [])) (sym is))
  reads_own (Entered c v) h f = sym is

module _ (l : List Written) (p n : ℕ) (W : List Written) (is : W ≡ stretch l p n) (len : length W ≡ n) where
  pub writes_own : (c : LogChange) → length (writes_after c W) ≤ most_writes → p + most_writes ≤ length l → stretch (writes_laid c W p l) p (writes_used c W n) ≡ writes_after c W
  writes_own Same h f = sym is
  writes_own Emptied h f = refl
  writes_own (Noted c) h f = sym is
  writes_own (Entered c v) h f = by (has c W) refl
    where
      x : Written
      x = record { cell = c; amount = v }

      by : (b : Bool) → has c W ≡ b → stretch (set l (p + place c W) (record { cell = c; amount = v })) p (cond b n (n + 1)) ≡ enter c v W
      by true e =
          let q : place c W < n = subst (λ z. place c W < z) len (ltb-true _ _ (sym (holds_place cell_of c W) ∙ e)) in
          stretch_set l p n (place c W) (record { cell = c; amount = v }) q ∙ ap (λ z. set z (place c W) (record { cell = c; amount = v })) (sym is) ∙ sym (enter_old c v W e)
      by false e =
          let a : n ≤ place c W = subst (λ z. z ≤ place c W) len (ltb-false _ _ (sym (holds_place cell_of c W) ∙ e)) in
          let b : place c W ≡ n = omega (arith, place_few cell_of c W, len) in
          let r : n < 32 = (let y : length (W ++ (x ∷ [])) ≤ 32 = subst (λ z. length z ≤ 32) (enter_new c v W e) h in let u = length-append W (x ∷ []) in omega (arith, len)) in
          rw (b, add-one) (stretch_push l p n (record { cell = c; amount = v }) (omega arith) ∙ ap (λ z. z ++ (record { cell = c; amount = v } ∷ [])) (sym is) ∙ sym (enter_new c v W e))

-- The stretches of two seats do not meet.
parted : (size k j n i : ℕ) → k ≢ j → 0 < k → i < size → n ≤ size → (j ≡ 0 → n ≡ 0) → (size * (k - 1) + i < size * (j - 1)) ⊎ (size * (j - 1) + n ≤ size * (k - 1) + i)
parted size k zero n i ne hk h l z = inr (let e : size * (0 - 1) ≡ 0 = omega arith in omega (arith, z refl))
parted size zero (suc j) n i ne hk h l z = absurd (omega arith)
parted size (suc k) (suc j) n i ne hk h l z =
    let a : suc k - 1 ≡ k = omega arith in
    let b : suc j - 1 ≡ j = omega arith in
    rw (a, b) (apart size k j i n (λ e. ne (ap suc e)) h l)

module _ {B : Type 0} where
  abbrev pub view : World B → ℕ → Option Seated → Option B → Option (Seat B)
  view w k None b = None
  view w k (Some s) None = None
  view w k (Some s) (Some b) = Some (to s.phase (work_of w k s b))

  abbrev pub seat_view : World B → ℕ → Option (Seat B)
  seat_view w k = view w k (get_or w.seats k None) (get_or w.bodies k None)

  -- What the law is about
  abbrev pub model : World B → core.World B
  model w = record { shared = w.shared; seats = seat_view w }

module _ {B : Type 0} (m : Ghosts B) (o : Opening) where
  abbrev Kept : History B → After B → Type 0
  Kept h d = core.Ran m o (d.moment ∷ h) (model d.world)

  module _ (h : History B) (w : World B) (i : Sane w) (n : Lent w) (r : core.Ran m o h (model w)) where
    kept_untouched : Kept h (calls.untouched w)
    kept_untouched = core.refuses h (model w) r

    inside : (k : ℕ) → k ≤ w.helpers → (k < length w.seats) × (k < length w.bodies)
    inside k l = (omega (arith, i.all_seated, i.sized.few), omega (arith, i.all_bodies, i.sized.few))

    module _ (k : ℕ) (s : Seated) (b : B) (l : k ≤ w.helpers) (at : get_or w.seats k None ≡ Some s) (has_body : get_or w.bodies k None ≡ Some b) where
      abbrev z : Step
      z = step_now m w k s b

      abbrev w' : World B
      w' = step_world m w k s b z

      fair_now : Fair w.used w.shared.queue k s (get_or w.bodies k None)
      fair_now = subst (λ x. FairSeat w.used w.shared.queue k x (get_or w.bodies k None)) at (i.fair k)

      is_steady : Steady w.shared k (work_of w k s b) s.phase z
      is_steady = st m w i n k s b l at

      own_reads : stretch w'.reads (reads_from k) (reads_used z.log (read_log w k s) s.reads) ≡ reads_after z.log (read_log w k s)
      own_reads = by k refl
        where
          master : (c : LogChange) (R : List ℕ) (p : ℕ) → Plain c → R ≡ stretch w.reads p s.reads → stretch (reads_laid c R p w.reads) p (reads_used c R s.reads) ≡ reads_after c R
          master Same R p q e = sym e
          master Emptied R p q e = refl
          master (Noted c) R p q e = absurd q
          master (Entered c v) R p q e = absurd q

          by : (j : ℕ) → k ≡ j → stretch w'.reads (reads_from k) (reads_used z.log (read_log w k s) s.reads) ≡ reads_after z.log (read_log w k s)
          by zero e = master z.log (read_log w k s) (reads_from k) (is_steady.plain (fair_now.chair ∙ eq-eqb k 0 e)) refl
          by (suc j) e = reads_own w.reads (reads_from k) s.reads (read_log w k s) refl (length_reads w i n k s l fair_now) z.log is_steady.few_reads (stretch_fits 64 k w.helpers 64 (length w.reads) l (λ q. absurd (omega arith)) (omega arith) (omega (arith, n.reads, i.sized.long_reads)))

      own_writes : stretch w'.writes (writes_from k) (writes_used z.log (write_log w k s) s.writes) ≡ writes_after z.log (write_log w k s)
      own_writes = by k refl
        where
          master : (c : LogChange) (W : List Written) (p : ℕ) → Plain c → W ≡ stretch w.writes p s.writes → stretch (writes_laid c W p w.writes) p (writes_used c W s.writes) ≡ writes_after c W
          master Same W p q e = sym e
          master Emptied W p q e = refl
          master (Noted c) W p q e = absurd q
          master (Entered c v) W p q e = absurd q

          by : (j : ℕ) → k ≡ j → stretch w'.writes (writes_from k) (writes_used z.log (write_log w k s) s.writes) ≡ writes_after z.log (write_log w k s)
          by zero e = master z.log (write_log w k s) (writes_from k) (is_steady.plain (fair_now.chair ∙ eq-eqb k 0 e)) refl
          by (suc j) e = writes_own w.writes (writes_from k) s.writes (write_log w k s) refl (length_writes w i n k s l fair_now) z.log is_steady.few_writes (stretch_fits 32 k w.helpers 32 (length w.writes) l (λ q. absurd (omega arith)) (omega arith) (omega (arith, n.writes, i.sized.long_writes)))

      -- The seat that was stepped
      own_view : view w' k (seated_after m w k s z) (Some (body_after m z.told b)) ≡ seat_after m z (work_of w k s b)
      own_view = by z.next
        where
          by : (x : Option Phase) → view w' k (seated_to x (moved m w k s z)) (Some (body_after m z.told b)) ≡ seat_to m x (work_after m z (work_of w k s b))
          by None = refl
          by (Some p) =
              ap {B = Option (Seat B)} (λ R. Some (to p (record { body = body_after m z.told b; way = s.way; start = (moved m w k s z).start; reads = R; writes = stretch w'.writes (writes_from k) (writes_used z.log (write_log w k s) s.writes) }))) own_reads
              ∙ ap {B = Option (Seat B)} (λ W. Some (to p (record { body = body_after m z.told b; way = s.way; start = (moved m w k s z).start; reads = reads_after z.log (read_log w k s); writes = W }))) own_writes

      -- No other seat sees a change
      other_reads : (j : ℕ) (t : Seated) (y : Option B) → (k ≡ j → ⊥) → Fair w.used w.shared.queue j t y → stretch w'.reads (reads_from j) t.reads ≡ stretch w.reads (reads_from j) t.reads
      other_reads j t y ne f = by z.log is_steady.few_reads is_steady.plain
        where
          by : (c : LogChange) → length (reads_after c (read_log w k s)) ≤ most_reads → (masters s.phase ≡ true → Plain c) → stretch (reads_laid c (read_log w k s) (reads_from k) w.reads) (reads_from j) t.reads ≡ stretch w.reads (reads_from j) t.reads
          by Same h p = refl
          by Emptied h p = refl
          by (Entered c v) h p = refl
          by (Noted c) h p =
              stretch_other w.reads (reads_from j) t.reads (reads_from k + place_by itself c (read_log w k s)) c
              (parted 64 k j t.reads (place_by itself c (read_log w k s)) ne helper (noted_within c (read_log w k s) 64 (rw (length_reads w i n k s l fair_now) fair_now.few_reads) h) f.few_reads (λ e0. (f.none_logged e0).0))
            where
              helper : 0 < k
              helper = at_least k refl
                where
                  at_least : (x : ℕ) → k ≡ x → 0 < k
                  at_least zero e = absurd (p (fair_now.chair ∙ eq-eqb k 0 e))
                  at_least (suc x) e = omega arith

      other_writes : (j : ℕ) (t : Seated) (y : Option B) → (k ≡ j → ⊥) → Fair w.used w.shared.queue j t y → stretch w'.writes (writes_from j) t.writes ≡ stretch w.writes (writes_from j) t.writes
      other_writes j t y ne f = by z.log is_steady.few_writes is_steady.plain
        where
          by : (c : LogChange) → length (writes_after c (write_log w k s)) ≤ most_writes → (masters s.phase ≡ true → Plain c) → stretch (writes_laid c (write_log w k s) (writes_from k) w.writes) (writes_from j) t.writes ≡ stretch w.writes (writes_from j) t.writes
          by Same h p = refl
          by Emptied h p = refl
          by (Noted c) h p = refl
          by (Entered c v) h p = stretch_other w.writes (writes_from j) t.writes (writes_from k + place c (write_log w k s)) (record { cell = c; amount = v }) (parted 32 k j t.writes (place c (write_log w k s)) ne helper (entered_within c v (write_log w k s) 32 (rw (length_writes w i n k s l fair_now) fair_now.few_writes) h) f.few_writes (λ e0. (f.none_logged e0).1))
            where
              helper : 0 < k
              helper = at_least k refl
                where
                  at_least : (x : ℕ) → k ≡ x → 0 < k
                  at_least zero e = absurd (p (fair_now.chair ∙ eq-eqb k 0 e))
                  at_least (suc x) e = omega arith

      other_view : (j : ℕ) → (k ≡ j → ⊥) → view w' j (get_or w.seats j None) (get_or w.bodies j None) ≡ view w j (get_or w.seats j None) (get_or w.bodies j None)
      other_view j ne = by (get_or w.seats j None) (get_or w.bodies j None) (i.fair j)
        where
          by : (x : Option Seated) (y : Option B) → FairSeat w.used w.shared.queue j x y → view w' j x y ≡ view w j x y
          by None y f = refl
          by (Some t) None f = refl
          by (Some t) (Some a) f =
              ap {B = Option (Seat B)} (λ R. Some (to t.phase (record { body = a; way = t.way; start = t.start; reads = R; writes = stretch w'.writes (writes_from j) t.writes }))) (other_reads j t (Some a) ne f)
              ∙ ap {B = Option (Seat B)} (λ W. Some (to t.phase (record { body = a; way = t.way; start = t.start; reads = stretch w.reads (reads_from j) t.reads; writes = W }))) (other_writes j t (Some a) ne f)

      seats_seen : (j : ℕ) → seat_view w' j ≡ put m k (seat_after m z (work_of w k s b)) (seat_view w) j
      seats_seen j = rw (get_d_set w.seats k j (seated_after m w k s z) None (inside k l).0, get_d_set w.bodies k j (Some (body_after m z.told b)) None (inside k l).1) (by (eqb k j) refl)
        where
          by : (c : Bool) → eqb k j ≡ c → view w' j (cond c (seated_after m w k s z) (get_or w.seats j None)) (cond c (Some (body_after m z.told b)) (get_or w.bodies j None)) ≡ cond c (seat_after m z (work_of w k s b)) (seat_view w j)
          by true e = subst (λ y. view w' y (seated_after m w k s z) (Some (body_after m z.told b)) ≡ seat_after m z (work_of w k s b)) (eqb-true k j e) own_view
          by false e = other_view j (eqb-false k j e)

      seen_now : seat_view w k ≡ Some (to s.phase (work_of w k s b))
      seen_now = rw (at, has_body)

      pub kept_did : Kept h (step_did m w k s b (step_now m w k s b))
      kept_did = subst (λ f. core.Ran m o ((step_did m w k s b z).moment ∷ h) (record { shared = w'.shared; seats = f })) (sym (fun_ext seats_seen)) (core.steps h (model w) k (to s.phase (work_of w k s b)) r seen_now)

    pub kept_step : (k : ℕ) → Kept h (step_call m w k)
    kept_step k = cond_both (ltb w.helpers k) _ _ (Kept h) (λ e. kept_untouched) (λ e. by (ltb-false w.helpers k e) (get_or w.seats k None) refl (get_or w.bodies k None) refl)
      where
        by : k ≤ w.helpers → (x : Option Seated) → get_or w.seats k None ≡ x → (y : Option B) → get_or w.bodies k None ≡ y → Kept h (step_by m w k x y)
        by l None e y f = kept_untouched
        by l (Some s) e None f = kept_untouched
        by l (Some s) e (Some b) f = cond_both (can_step m w k s b) _ _ (Kept h) (λ c. kept_did k s b l e f) (λ c. kept_untouched)

    -- A seating
    module _ (k y t : ℕ) (b : B) (a : Accepted m w k y b) where
      abbrev ws : World B
      ws = seat_world m w k y t b

      abbrev new : Seat B
      new = to (core.first_phase k) (record { body = b; way = a.way; start = 0; reads = []; writes = [] })

      seat_seen : (j : ℕ) → seat_view ws j ≡ put m k (Some new) (seat_view w) j
      seat_seen j = rw (get_d_set w.seats k j (Some (newly_seated m k (taken_way m (way_of k y)) t b)) None (inside k a.seat).0, get_d_set w.bodies k j (Some b) None (inside k a.seat).1) (by (eqb k j))
        where
          phase_same : (x : ℕ) → calls.first_phase x ≡ core.first_phase x
          phase_same zero = refl
          phase_same (suc x) = refl

          fresh : (x : ℕ) → view ws x (Some (newly_seated m k (taken_way m (way_of k y)) t b)) (Some b) ≡ Some new
          fresh x = rw (phase_same k, a.is_way)

          by : (c : Bool) → view ws j (cond c (Some (newly_seated m k (taken_way m (way_of k y)) t b)) (get_or w.seats j None)) (cond c (Some b) (get_or w.bodies j None)) ≡ cond c (Some new) (seat_view w j)
          by true = fresh j
          by false = refl

      idle_seen : seat_view w k ≡ None
      idle_seen = rw a.idle

      pub kept_seated : Kept h (calls.at_moment (seated k b) (seat_world m w k y t b))
      kept_seated = subst (λ f. core.Ran m o ((calls.at_moment (seated k b) ws).moment ∷ h) (record { shared = w.shared; seats = f })) (sym (fun_ext seat_seen)) (core.seats h (model w) k a.way b r idle_seen (omega (arith, a.reaches, n.cells)))

    pub kept_seat : (k y t : ℕ) (b : B) → Kept h (seat_call m w k y t b)
    kept_seat k y t b = by (seat_refusal m w k y b) refl
      where
        by : (x : Option SeatRefusal) → seat_refusal m w k y b ≡ x → Kept h (seat_by m w k y t b x)
        by (Some x) e = kept_untouched
        by None e = kept_seated k y t b (accepted m w k y b e)

    pub kept_pause : Kept h (pause_call w)
    kept_pause = cond_both w.shared.paused _ _ (Kept h) (λ e. kept_untouched) (λ e. core.pauses h (model w) true r)

    pub kept_resume : (name : ℕ) → Kept h (resume_call w name)
    kept_resume name = cond_both (eqb name w.name) _ _ (Kept h) (λ e. cond_both w.shared.paused _ _ (Kept h) (λ f. core.pauses h (model w) false r) (λ f. kept_untouched)) (λ e. kept_untouched)
