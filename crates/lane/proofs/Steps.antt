-- Each phase's step keeps what holds of what is shared and of its own seat.
use Rattle.std.proofs.Common.{◌≡◌, ℕ, suc, ◌+◌, ◌-◌, ◌%◌, ◌<◌, ◌≤◌, Bool, true, false, cond, not, ◌&&◌, eqb, ltb, leb, ◌⊎◌, List, [], ◌∷◌, ◌++◌, length, get_or, take, set, ℤ, pos, Some, None, Option, sym, refl, ap, ◌∙◌, subst, inl, inr, ⊎_elim, true≢false, add-one, arith, length-append, take_all}
use mathlib.Core.Bool.{false≢true}
use lib.ListN.{get_or-append}
use Rattle.std.proofs.lemmas.Bool.{eqb-true, eqb-false, ltb-true, ltb-false, leb-false, cases_lt, cond_both, both_ways, and_parts, not-true}
use Rattle.body.specs.declared.body.Body.{Ghosts}
use Rattle.body.specs.declared.request.Request.{Request}
use Rattle.body.specs.declared.request.Request.TheVariants.{Read, Write, End}
use Rattle.lane.specs.declared.answer.Answer.{Answer}
use Rattle.lane.specs.declared.answer.Answer.TheVariants.{GoneOn, Waiting, Paused, BrokenOff, Committed, TooLong}
use Rattle.body.specs.Serial.{Outcome, Commit, alone}
use Rattle.lane.specs.declared.told.Told.{Told}
use Rattle.lane.specs.declared.told.Told.TheVariants.{Nothing, Restarted, Handed, Taken}
use Rattle.lane.specs.History.{own_or, amounts, with_body}
use Rattle.lane.specs.declared.phase.Phase.{Phase}
use Rattle.lane.specs.declared.phase.Phase.TheVariants.{Reserve, MasterLook, Take, MasterRun, Put, Begin, Run, Check, Wait, Look, Prevalidate, Swap, Validate, Mark, Cell, Release, LetGo, Quit, Leave}
use Rattle.lane.specs.declared.phase.Way.{Way}
use Rattle.lane.specs.declared.phase.Way.TheVariants.{One, Two, Three}
use Rattle.lane.specs.declared.written.Written.{Written}
use Rattle.lane.specs.Logs.{has, logged, enter, mem, note, cells_of, no_entry}
use Rattle.lane.specs.State.{Work, Seat, entries, Core, Shared, base, mark_of, mark_set, cell_set, numbered, with_core, with_queue, without, first_is, stale}
use Rattle.lane.specs.Phases.{goes, does, stays, hands, commits_as, too_long, master_run_step, read_step, look_even, look_step, way_step, run_step, after_swap, after_release, let_go_step, step_at}
use Rattle.lane.specs.Effects.{seat_to}
use Rattle.lane.specs.declared.step.Effect.TheVariants.{Unchanged, CellSet, NumberRaised}
use Rattle.lane.specs.declared.step.LogChange.TheVariants.{Same, Noted}
use Rattle.lane.specs.declared.step.Step.{Step}
use Rattle.lane.proofs.Core.{to, out_of}
use Rattle.lane.proofs.Bodies.{over, get_d_over, Laws, Valid, fresh, read, wrote, valid_same, reads_within, replay}
use Rattle.lane.proofs.Orders.{upto_more, state, full, state_full, length_full, length_state}
use Rattle.lane.proofs.Logs.{log, emit, logged_log, logged_default, logged_miss, emit_log, emit_take, covers_more, mem_note, mem_noted, mem_place, moved}
use Rattle.lane.proofs.Inv.{View, heard, grown, holds, holds_seat, Fresh, Sure, Sh, Waits, Doing, Ends, Ready, Masters, Facts, Mine, Later, Moves, quiet, takes, works, Hears, Breaks, Good}
use Rattle.lane.proofs.Changes.{mark_set_here, quiet_refl, later_quiet, sh_mark, later_mark, sh_cell, later_cell, sh_take, later_take, sh_give, later_give, sh_commit, later_commit, quiet_reader, sh_reader}

-- Lengths of logs --------------------------------------------------------------

pub few_entered : (c : ℕ) (v : ℤ) (W : List Written) (n : ℕ) → length W ≤ n → (has c W ≡ false → length W < n) → length (enter c v W) ≤ n
few_entered c v [] n h f = f refl
few_entered c v (x ∷ W) n h f = by (λ n'. few_entered c v W n') (eqb x.cell c) refl
  where
    by : ((n' : ℕ) → length W ≤ n' → (has c W ≡ false → length W < n') → length (enter c v W) ≤ n') → (r : Bool) → eqb x.cell c ≡ r → length (cond r (record { cell = c; amount = v } ∷ W) (x ∷ enter c v W)) ≤ n
    by ih true e = h
    by ih false e =
        let z : length (enter c v W) ≤ n - 1 = ih (n - 1) (omega arith) (λ q. (let y : length (x ∷ W) < n = f (rw e q) in omega arith)) in
        omega arith

pub few_noted : (c : ℕ) (R : List ℕ) (n : ℕ) → length R ≤ n → (mem c R ≡ false → length R < n) → length (note c R) ≤ n
few_noted c R n h f = by (mem c R) refl
  where
    by : (r : Bool) → mem c R ≡ r → length (cond r R (R ++ (c ∷ []))) ≤ n
    by true e = h
    by false e = rw length-append (omega (arith, f e))

pub not_full : (b : Bool) (n k : ℕ) → (not b && leb k n) ≡ false → b ≡ false → n < k
not_full true n k e f = absurd (true≢false f)
not_full false n k e f = leb-false k n e

pub length_cells_of : (W : List Written) → length (cells_of W) ≡ length W
length_cells_of [] = refl
length_cells_of (x ∷ W) = ap suc (length_cells_of W)

pub few_entries : (R : List ℕ) (W : List Written) → length R ≤ 64 → length W ≤ 32 → length (R ++ cells_of W) ≤ 96
few_entries R W h l = rw (length-append, length_cells_of) (omega arith)

pub some_written : (W : List Written) → eqb (length W) 0 ≡ false → 0 < length W
some_written W e = let z = eqb-false (length W) 0 e in omega arith

none_written : (W : List Written) → eqb (length W) 0 ≡ true → W ≡ []
none_written [] e = refl
none_written (x ∷ W) e = absurd (let z = eqb-true (length (x ∷ W)) 0 e in omega arith)

module _ {B : Type 0} (m : Ghosts B) (σ : List ℤ) (law : Laws m) where
  pub waits_from : {τ : List ℤ} {s : Work B} {v : View B} → Doing m σ τ s v → Waits m σ s v.body
  waits_from d = record { who = d.who; seated = d.seated; same = (valid_same m law d.valid).start; fits = d.fits }

  module _ (g : Shared) (C : List (Commit B)) (sh : Sh m σ g.core C) (k : ℕ) (s : Work B) (v : View B) where
    abbrev Fine : Phase → Step → Type 0
    Fine p z = Good m σ g C k p v (out_of m g k s z) (heard z.told v) (grown z.answer (heard z.told v) C)

    -- Nothing that is shared changes, but perhaps the queue
    calm : (p : Phase) (q : List ℕ) (x : Option (Seat B)) (a : Answer) (t : Told) (v' : View B) → (holds_seat x ≡ true → holds p ≡ true) → Mine m σ g.core g.flag C k v' x → Hears m σ (base g.core.number) C v t → Breaks m σ k a → Good m σ g C k p v (record { shared = with_queue q g; seat = x; answer = a; told = t }) v' C
    calm p q x a t v' h i e b = record {
      shared = sh;
      mine = i;
      later = later_quiet m σ g.core g.core C C (quiet_refl m σ g.core C);
      moves = quiet (quiet_refl m σ g.core C) h;
      flags = inr refl;
      clears = λ y z. absurd (both_ways g.flag z y);
      hears = e;
      breaks = b;
    }

    on : (p p' : Phase) → (holds p' ≡ true → holds p ≡ true) → Facts m σ g.core g.flag C k s v p' → Fine p (goes p')
    on p p' h i = calm p g.queue (Some (to p' s)) GoneOn Nothing v h i tt tt

    waiting : (p p' : Phase) → (holds p' ≡ true → holds p ≡ true) → Facts m σ g.core g.flag C k s v p' → Fine p (stays Waiting p')
    waiting p p' h i = calm p g.queue (Some (to p' s)) Waiting Nothing v h i tt tt

    paused : (p p' : Phase) → (holds p' ≡ true → holds p ≡ true) → Facts m σ g.core g.flag C k s v p' → Fine p (stays Paused p')
    paused p p' h i = calm p g.queue (Some (to p' s)) Paused Nothing v h i tt tt

    broken : (p : Phase) (q : List ℕ) → 0 < k → Waits m σ s v.body → Good m σ g C k p v (record { shared = with_queue q g; seat = Some (to Begin s); answer = BrokenOff; told = Nothing }) v C
    broken p q h w = calm p q (Some (to Begin s)) BrokenOff Nothing v (λ e. absurd (false≢true e)) (h, w) tt h

    long : (p : Phase) → Fine p too_long
    long p = calm p g.queue None TooLong Nothing v (λ e. absurd (false≢true e)) tt tt tt

    -- What is shared changes, and the flag does not
    busy : (p : Phase) (x : Core) (y : Option (Seat B)) (a : Answer) (t : Told) (v' : View B) (C' : List (Commit B)) → Sh m σ x C' → Later m σ g.core C x C' → Mine m σ x g.flag C' k v' y → Moves m σ g C k p (record { shared = with_core x g; seat = y; answer = a; told = t }) C' → Hears m σ (base g.core.number) C v t → Breaks m σ k a → Good m σ g C k p v (record { shared = with_core x g; seat = y; answer = a; told = t }) v' C'
    busy p x y a t v' C' sh' l i w e b = record {
      shared = sh';
      mine = i;
      later = l;
      moves = w;
      flags = inr refl;
      clears = λ c d. absurd (both_ways g.flag d c);
      hears = e;
      breaks = b;
    }

    -- The master ------------------------------------------------------------------

    good_reserve : Facts m σ g.core g.flag C k s v Reserve → Fine Reserve (step_at m g k s Reserve)
    good_reserve f = cond_both g.paused _ _ (Fine Reserve) (λ e. paused Reserve Reserve (λ h. h) f) (λ e. record {
      shared = sh;
      mine = (f.0, f.1, refl);
      later = later_quiet m σ g.core g.core C C (quiet_refl m σ g.core C);
      moves = quiet (quiet_refl m σ g.core C) (λ h. h);
      flags = inl f.0;
      clears = λ y z. absurd (true≢false z);
      hears = tt;
      breaks = tt;
    })

    good_mlook : Facts m σ g.core g.flag C k s v MasterLook → Fine MasterLook (step_at m g k s MasterLook)
    good_mlook f = cond_both (eqb (g.core.number % 2) 1) _ _ (Fine MasterLook) (λ e. waiting MasterLook MasterLook (λ h. h) f) (λ e. on MasterLook Take (λ h. h) (f.0, f.1, f.2, (let z = eqb-false (g.core.number % 2) 1 e in omega arith)))

    good_mtake : Facts m σ g.core g.flag C k s v Take → Fine Take (step_at m g k s Take)
    good_mtake f = record {
      shared = sh_take m σ g.core C sh f.3;
      mine = record {
        master = f.0;
        doing = record { who = f.1.who; seated = f.1.seated; valid = subst (λ b. Valid m (full m σ C) f.1.who [] b) (sym f.1.same) fresh; fits = f.1.fits };
        now = omega arith;
        cells = sh.free f.3;
        odd = omega (arith, f.3);
      };
      later = later_take m σ g.core C sh f.3;
      moves = takes f.3 (omega (arith, f.3)) (inr f.0) refl;
      flags = inl f.0;
      clears = λ y z. (f.3, omega (arith, f.3));
      hears = tt;
      breaks = tt;
    }

    module _ (M : Masters m σ g.core.number g.core.cells C k s v) where
      handed_master : (c : ℕ) → m.asks s.body ≡ Read c → get_or g.core.cells c (pos 0) ≡ own_or c (get_or (full m σ C) c (pos 0)) v.told
      handed_master c e =
          let l : c < length (full m σ C) = (let r = reads_within m law M.doing.valid e in omega (arith, length_full m σ C, M.doing.fits)) in
          ap (λ z. get_or z c (pos 0)) M.cells ∙ get_d_over v.told (full m σ C) c l

      master_state : state m σ v.start C ≡ full m σ C
      master_state = state_full m σ v.start C (upto_more (base g.core.number) v.start C (omega (arith, M.now, M.odd)) sh.numbers)

      good_master : (q : Request) → m.asks s.body ≡ q → Fine MasterRun (master_run_step g.core.number g.core.cells q)
      good_master (Read c) e =
          let q = handed_master c e in
          let v' = heard (Handed c (get_or g.core.cells c (pos 0))) v in
          calm MasterRun g.queue _ GoneOn (Handed c (get_or g.core.cells c (pos 0))) v' (λ h. h)
          (record { master = M.master; doing = record { who = M.doing.who; seated = M.doing.seated; valid = read M.doing.valid e q; fits = M.doing.fits }; now = M.now; cells = M.cells; odd = M.odd })
          (omega (arith, M.now, M.odd), subst (λ z. get_or g.core.cells c (pos 0) ≡ own_or c (get_or z c (pos 0)) v.told) (sym master_state) q)
          tt
      good_master (Write c x) e =
          busy MasterRun (mark_set c g.core) (Some (to (Put c x) s)) GoneOn Nothing v C (sh_mark m σ g.core C sh c M.odd) (later_mark m σ g.core C sh c M.odd) (M, e, mark_set_here g.core c sh.some) (works refl M.odd) tt tt
      good_master End e =
          let a : alone m M.doing.who (full m σ C) ≡ record { handed = amounts v.told; cells = g.core.cells } = replay m law M.doing.valid (omega (arith, length_full m σ C, M.doing.fits)) e ∙ ap {B = Outcome} (λ z. record { handed = amounts v.told; cells = z }) (sym M.cells) in
          subst (λ z. Good m σ g C k MasterRun v (out_of m g k s (master_run_step g.core.number g.core.cells End)) v (with_body z g.core.number (amounts v.told) C)) (sym M.doing.seated)
          (busy MasterRun (numbered (g.core.number + 1) g.core) None (Committed g.core.number) Nothing v (record { number = g.core.number; body = M.doing.who; handed = amounts v.told } ∷ C)
          (sh_commit m σ g.core C sh M.doing.who (amounts v.told) M.odd a)
          (later_commit m σ g.core C sh M.doing.who (amounts v.told) M.odd) tt (works refl M.odd) tt tt)

    good_mput : (c : ℕ) (x : ℤ) → Facts m σ g.core g.flag C k s v (Put c x) → Fine (Put c x) (step_at m g k s (Put c x))
    good_mput c x f =
        let M = f.0 in
        busy (Put c x) (cell_set c x g.core) _ GoneOn (Taken c x) (heard (Taken c x) v) C (sh_cell m σ g.core C sh c x M.odd f.2) (later_cell m σ g.core C sh c x)
        (record { master = M.master; doing = record { who = M.doing.who; seated = M.doing.seated; valid = wrote M.doing.valid f.1; fits = M.doing.fits }; now = M.now; cells = ap (λ z. set z c x) M.cells; odd = M.odd })
        (works refl M.odd) tt tt

    -- A helper ---------------------------------------------------------------------

    good_begin : Facts m σ g.core g.flag C k s v Begin → Fine Begin (step_at m g k s Begin)
    good_begin f = cond_both g.paused _ _ (Fine Begin) (λ e. paused Begin Begin (λ h. h) f) (λ e. calm Begin g.queue _ GoneOn (Restarted (base g.core.number)) (heard (Restarted (base g.core.number)) v) (λ h. absurd (false≢true h)) (record {
      helper = f.0;
      doing = record { who = f.1.who; seated = f.1.seated; valid = subst (λ b. Valid m (state m σ (base g.core.number) C) f.1.who [] b) (sym f.1.same) fresh; fits = f.1.fits };
      begun = record { is = refl; early = omega arith };
      logs = record { written = refl; covers = tt; few_reads = omega arith; few_writes = omega arith };
    }) tt tt)

    look_good : (p : Phase) (o : Option ℕ) → (true ≡ false → holds p ≡ true) → Ready m σ g.core C k s v → Ends m σ s → Sure g.core s v.start o → (y : Way) → Fine p (look_step g.core.number y o)
    look_good p o h r en su y = cond_both (eqb (g.core.number % 2) 1) _ _ (Fine p) (λ e. waiting p (Look o) (λ z. h (sym z)) (r, en, su)) (λ e. even (let z = eqb-false (g.core.number % 2) 1 e in omega arith) y)
      where
        even : g.core.number % 2 ≡ 0 → (z : Way) → Fine p (look_even g.core.number z o)
        even e One = on p (Swap None g.core.number) (λ z. h (sym z)) (r, en, e, tt)
        even e Two = by o su
          where
            by : (o' : Option ℕ) → Sure g.core s v.start o' → Fine p (look_even g.core.number Two o')
            by None q = on p (Prevalidate g.core.number 0) (λ z. h (sym z)) (r, en, e, omega arith, λ j l. absurd (omega arith))
            by (Some f) q = on p (Swap (Some f) g.core.number) (λ z. h (sym z)) (r, en, e, q)
        even e Three = on p (Prevalidate g.core.number 0) (λ z. h (sym z)) (r, en, e, omega arith, λ j l. absurd (omega arith))

    -- All read entries are fresh: what was handed stands there now too
    fresh_doing : Ready m σ g.core C k s v → Fresh g.core s v.start (length (entries s)) → Doing m σ (full m σ C) s v
    fresh_doing r f = record { who = r.doing.who; seated = r.doing.seated; valid = moved m (full m σ C) s.reads r.logs.covers same r.doing.valid; fits = r.doing.fits }
      where
        same : (c : ℕ) → mem c s.reads ≡ true → get_or (state m σ v.start C) c (pos 0) ≡ get_or (full m σ C) c (pos 0)
        same c h =
            let i = mem_place c s.reads h in
            let q : get_or (entries s) i.0 0 ≡ c = get_or-append s.reads (cells_of s.writes) 0 i.0 i.1 ∙ i.2 in
            let l : mark_of g.core c ≤ v.start = subst (λ d. mark_of g.core d ≤ v.start) q (f i.0 (rw length-append (omega (arith, i.1)))) in
            sym (sh.marked c v.start l r.begun.early) ∙ sh.marked c (base g.core.number) (omega (arith, r.begun.early)) (omega arith) ∙ ap (λ z. get_or z c (pos 0)) (state_full m σ (base g.core.number) C sh.numbers)

    module _ (r : Ready m σ g.core C k s v) where
      good_read : (c : ℕ) → m.asks s.body ≡ Read c → Fine Run (run_step g s (Read c))
      good_read c e = cond_both (has c s.writes) _ _ (λ o. Fine Run (read_step g.core.cells c o)) own other
        where
          τ : List ℤ
          τ = state m σ v.start C

          own : has c s.writes ≡ true → Fine Run (hands c (logged c (pos 0) s.writes) Same Run)
          own h =
              let q : logged c (pos 0) s.writes ≡ own_or c (get_or (state m σ v.start C) c (pos 0)) v.told = logged_default c (pos 0) (get_or (state m σ v.start C) c (pos 0)) s.writes h ∙ ap (logged c (get_or (state m σ v.start C) c (pos 0))) r.logs.written ∙ logged_log c (get_or (state m σ v.start C) c (pos 0)) v.told in
              calm Run g.queue _ GoneOn (Handed c (logged c (pos 0) s.writes)) (heard (Handed c (logged c (pos 0) s.writes)) v) (λ z. absurd (false≢true z))
              (record { helper = r.helper; doing = record { who = r.doing.who; seated = r.doing.seated; valid = read r.doing.valid e q; fits = r.doing.fits }; begun = record { is = r.begun.is; early = r.begun.early }; logs = record { written = r.logs.written; covers = (λ z. absurd (both_ways (has c (log v.told)) z (subst (λ W. has c W ≡ true) r.logs.written h)), r.logs.covers); few_reads = r.logs.few_reads; few_writes = r.logs.few_writes } })
              (r.begun.early, q) tt

          other : has c s.writes ≡ false → Fine Run (goes (Check c (get_or g.core.cells c (pos 0))))
          other h = on Run (Check c (get_or g.core.cells c (pos 0))) (λ z. absurd (false≢true z)) (r, e, h, ⊎_elim inl (λ l. inr (sh.marked c v.start l r.begun.early)) (cases_lt v.start (mark_of g.core c)))

      good_write : (c : ℕ) (x : ℤ) → m.asks s.body ≡ Write c x → Fine Run (run_step g s (Write c x))
      good_write c x e = cond_both (stale g s c) _ _ (Fine Run) (λ h. broken Run g.queue r.helper (waits_from r.doing)) (λ h. cond_both (not (has c s.writes) && leb 32 (length s.writes)) _ _ (Fine Run) (λ i. long Run) (λ i.
          calm Run g.queue _ GoneOn (Taken c x) (heard (Taken c x) v) (λ z. absurd (false≢true z))
          (record { helper = r.helper; doing = record { who = r.doing.who; seated = r.doing.seated; valid = wrote r.doing.valid e; fits = r.doing.fits }; begun = record { is = r.begun.is; early = r.begun.early }; logs = record { written = ap (enter c x) r.logs.written; covers = r.logs.covers; few_reads = r.logs.few_reads; few_writes = few_entered c x s.writes 32 r.logs.few_writes (not_full (has c s.writes) (length s.writes) 32 i) } })
          tt tt))

      good_end : m.asks s.body ≡ End → Fine Run (run_step g s End)
      good_end e = cond_both (eqb (length s.writes) 0) _ _ (Fine Run) reader (λ h. way (record { asked = e; some = some_written s.writes h }) s.way)
        where
          way : Ends m σ s → (y : Way) → Fine Run (way_step g.core.number y)
          way en One = look_good Run None (λ z. absurd (true≢false z)) r en tt One
          way en Two = calm Run (g.queue ++ (k ∷ [])) (Some (to Wait s)) GoneOn Nothing v (λ z. absurd (false≢true z)) (r, en) tt tt
          way en Three = calm Run (g.queue ++ (k ∷ [])) (Some (to Wait s)) GoneOn Nothing v (λ z. absurd (false≢true z)) (r, en) tt tt

          reader : eqb (length s.writes) 0 ≡ true → Fine Run (commits_as s.start Unchanged None)
          reader h =
              let τ = state m σ v.start C in
              let w : over v.told τ ≡ τ = sym (emit_log v.told τ) ∙ ap (λ W. emit W τ) (sym r.logs.written ∙ none_written s.writes h) in
              let a : alone m r.doing.who τ ≡ record { handed = amounts v.told; cells = τ } = replay m law r.doing.valid (omega (arith, length_state m σ v.start C, r.doing.fits)) e ∙ ap {B = Outcome} (λ z. record { handed = amounts v.told; cells = z }) w in
              let q = quiet_reader m σ g.core C sh r.doing.who (amounts v.told) v.start r.begun.early a in
              let C' = record { number = v.start; body = r.doing.who; handed = amounts v.told } ∷ C in
              subst (λ n. Good m σ g C k Run v (out_of m g k s (commits_as n Unchanged None)) v (with_body v.body n (amounts v.told) C)) (sym r.begun.is)
              (subst (λ z. Good m σ g C k Run v (out_of m g k s (commits_as v.start Unchanged None)) v (with_body z v.start (amounts v.told) C)) (sym r.doing.seated) (record {
                shared = sh_reader m σ g.core C sh r.doing.who (amounts v.told) v.start r.begun.early a;
                mine = tt;
                later = later_quiet m σ g.core g.core C C' q;
                moves = quiet q (λ z. absurd (false≢true z));
                flags = inr refl;
                clears = λ y z. absurd (both_ways g.flag z y);
                hears = tt;
                breaks = tt;
              }))

      good_run : (q : Request) → m.asks s.body ≡ q → Fine Run (run_step g s q)
      good_run (Read c) e = good_read c e
      good_run (Write c x) e = good_write c x e
      good_run End e = good_end e

    good_check : (c : ℕ) (x : ℤ) → Facts m σ g.core g.flag C k s v (Check c x) → Fine (Check c x) (step_at m g k s (Check c x))
    good_check c x f = cond_both (stale g s c) _ _ (Fine (Check c x)) (λ h. broken (Check c x) g.queue f.0.helper (waits_from f.0.doing)) (λ h. cond_both (not (mem c s.reads) && leb 64 (length s.reads)) _ _ (Fine (Check c x)) (λ i. long (Check c x)) (λ i. told h i))
      where
        told : stale g s c ≡ false → (not (mem c s.reads) && leb 64 (length s.reads)) ≡ false → Fine (Check c x) (hands c x (Noted c) Run)
        told h i =
            let r = f.0 in
            let y = get_or (state m σ v.start C) c (pos 0) in
            let hs : has c (log v.told) ≡ false = subst (λ W. has c W ≡ false) r.logs.written f.2 in
            let l : mark_of g.core c ≤ v.start = omega (arith, ltb-false s.start (mark_of g.core c) h, r.begun.is) in
            let z : x ≡ y = ⊎_elim (λ a. absurd (omega arith)) (λ a. a) f.3 in
            let q : x ≡ own_or c y v.told = z ∙ sym (logged_miss c y (log v.told) hs) ∙ logged_log c y v.told in
            calm (Check c x) g.queue _ GoneOn (Handed c x) (heard (Handed c x) v) (λ z. absurd (false≢true z))
            (record { helper = r.helper; doing = record { who = r.doing.who; seated = r.doing.seated; valid = read r.doing.valid f.1 q; fits = r.doing.fits }; begun = record { is = r.begun.is; early = r.begun.early }; logs = record { written = r.logs.written; covers = (λ _. mem_noted c s.reads, covers_more s.reads (note c s.reads) v.told (λ d. mem_note d c s.reads) r.logs.covers); few_reads = few_noted c s.reads 64 r.logs.few_reads (not_full (mem c s.reads) (length s.reads) 64 i); few_writes = r.logs.few_writes } })
            (r.begun.early, q) tt

    good_wait : Facts m σ g.core g.flag C k s v Wait → Fine Wait (step_at m g k s Wait)
    good_wait f = cond_both (first_is k g.queue) _ _ (Fine Wait) (λ e. on Wait (Look None) (λ z. z) (f.0, f.1, tt)) (λ e. waiting Wait Wait (λ z. z) f)

    not_stale : (st c : ℕ) → s.start ≡ st → stale g s c ≡ false → mark_of g.core c ≤ st
    not_stale st c e h = omega (arith, ltb-false s.start (mark_of g.core c) h)

    good_pre : (c i : ℕ) → Facts m σ g.core g.flag C k s v (Prevalidate c i) → Fine (Prevalidate c i) (step_at m g k s (Prevalidate c i))
    good_pre c i f = cond_both (stale g s (get_or (entries s) i 0)) _ _ (Fine (Prevalidate c i)) (λ h. on (Prevalidate c i) Quit (λ z. z) (f.0.helper, waits_from f.0.doing)) (λ h. cond_both (ltb (i + 1) (length (entries s))) _ _ (Fine (Prevalidate c i))
        (λ l. on (Prevalidate c i) (Prevalidate c (i + 1)) (λ z. z) (f.0, f.1, f.2, f.3, λ j b. seen h j b (cases_lt j i)))
        (λ l. on (Prevalidate c i) (Swap (Some c) c) (λ z. z) (f.0, f.1, f.2, (f.3, λ j b. seen h j (omega (arith, ltb-false (i + 1) (length (entries s)) l)) (cases_lt j i)))))
      where
        seen : stale g s (get_or (entries s) i 0) ≡ false → (j : ℕ) → j < i + 1 → (j < i) ⊎ (i ≤ j) → (mark_of g.core (get_or (entries s) j 0) ≤ v.start) ⊎ (c < mark_of g.core (get_or (entries s) j 0))
        seen h j b (inl l) = f.4 j l
        seen h j b (inr l) =
            let q : i ≡ j = omega arith in
            inl (subst (λ a. mark_of g.core (get_or (entries s) a 0) ≤ v.start) q (not_stale v.start (get_or (entries s) i 0) f.0.begun.is h))

    ready_taken : (n : ℕ) → base g.core.number ≤ base n → Ready m σ g.core C k s v → Ready m σ (numbered n g.core) C k s v
    ready_taken n l r = record { helper = r.helper; doing = r.doing; begun = record { is = r.begun.is; early = omega (arith, r.begun.early) }; logs = r.logs }

    some_entries : Ends m σ s → 0 < length (entries s)
    some_entries en = rw (length-append, length_cells_of) (omega (arith, en.some))

    good_swap : (o : Option ℕ) (c : ℕ) → Facts m σ g.core g.flag C k s v (Swap o c) → Fine (Swap o c) (step_at m g k s (Swap o c))
    good_swap o c f = cond_both (eqb g.core.number c && not g.flag) _ _ (Fine (Swap o c)) Taken (λ h. on (Swap o c) (Look o) (λ z. z) (f.0, f.1, f.3))
      where
        Taken : (eqb g.core.number c && not g.flag) ≡ true → Fine (Swap o c) (does NumberRaised (after_swap o c))
        Taken h = by o f.3
          where
            same : g.core.number ≡ c
            same = eqb-true g.core.number c (and_parts (eqb g.core.number c) (not g.flag) h).0

            down : g.flag ≡ false
            down = not-true g.flag (and_parts (eqb g.core.number c) (not g.flag) h).1

            ev : g.core.number % 2 ≡ 0
            ev = rw same f.2

            r' : Ready m σ (numbered (g.core.number + 1) g.core) C k s v
            r' = ready_taken (g.core.number + 1) (omega (arith, ev)) f.0

            into : (p : Phase) → holds p ≡ true → Facts m σ (numbered (g.core.number + 1) g.core) g.flag C k s v p → Fine (Swap o c) (does NumberRaised p)
            into p hp i = busy (Swap o c) (numbered (g.core.number + 1) g.core) (Some (to p s)) GoneOn Nothing v C (sh_take m σ g.core C sh ev) (later_take m σ g.core C sh ev) i (takes ev (omega (arith, ev)) (inl down) hp) tt tt

            checks : Fine (Swap o c) (does NumberRaised (Validate 0))
            checks = into (Validate 0) refl (r', f.1, omega (arith, ev), sh.free ev, λ d. omega (arith, sh.high d, ev), some_entries f.1, λ j l. absurd (omega arith))

            by : (o' : Option ℕ) → Sure g.core s v.start o' → Fine (Swap o c) (does NumberRaised (after_swap o' c))
            by None su = checks
            by (Some x) su = cond_both (ltb x c) _ _ (λ p. Fine (Swap o c) (does NumberRaised p)) (λ l. checks) (λ l. into (Mark 0) refl (record { helper = f.0.helper; doing = fresh_doing f.0 (λ j b. ⊎_elim (λ y. y) (λ y. absurd (omega (arith, sh.high (get_or (entries s) j 0), ltb-false x c l, same, y))) (su.1 j b)); logs = f.0.logs; ends = f.1; odd = omega (arith, ev) }, f.1.some, sh.free ev))

    good_validate : (i : ℕ) → Facts m σ g.core g.flag C k s v (Validate i) → Fine (Validate i) (step_at m g k s (Validate i))
    good_validate i f = cond_both (stale g s (get_or (entries s) i 0)) _ _ (Fine (Validate i)) (λ h. on (Validate i) LetGo (λ z. z) (f.0.helper, waits_from f.0.doing, f.2, f.3, f.4, few_entries s.reads s.writes f.0.logs.few_reads f.0.logs.few_writes)) (λ h. cond_both (ltb (i + 1) (length (entries s))) _ _ (Fine (Validate i))
        (λ l. on (Validate i) (Validate (i + 1)) (λ z. z) (f.0, f.1, f.2, f.3, f.4, ltb-true (i + 1) (length (entries s)) l, λ j b. seen h j b (cases_lt j i)))
        (λ l. on (Validate i) (Mark 0) (λ z. z) (record { helper = f.0.helper; doing = fresh_doing f.0 (λ j b. seen h j (omega (arith, ltb-false (i + 1) (length (entries s)) l)) (cases_lt j i)); logs = f.0.logs; ends = f.1; odd = f.2 }, f.1.some, f.3)))
      where
        seen : stale g s (get_or (entries s) i 0) ≡ false → (j : ℕ) → j < i + 1 → (j < i) ⊎ (i ≤ j) → mark_of g.core (get_or (entries s) j 0) ≤ v.start
        seen h j b (inl l) = f.6 j l
        seen h j b (inr l) =
            let q : i ≡ j = omega arith in
            subst (λ a. mark_of g.core (get_or (entries s) a 0) ≤ v.start) q (not_stale v.start (get_or (entries s) i 0) f.0.begun.is h)

    good_mark_at : (i : ℕ) → Facts m σ g.core g.flag C k s v (Mark i) → Fine (Mark i) (step_at m g k s (Mark i))
    good_mark_at i f =
        let c = (get_or s.writes i no_entry).cell in
        busy (Mark i) (mark_set c g.core) (Some (to (Cell i) s)) GoneOn Nothing v C (sh_mark m σ g.core C sh c f.0.odd) (later_mark m σ g.core C sh c f.0.odd) (f.0, f.1, f.2, mark_set_here g.core c sh.some) (works refl f.0.odd) tt tt

    good_cell_at : (i : ℕ) → Facts m σ g.core g.flag C k s v (Cell i) → Fine (Cell i) (step_at m g k s (Cell i))
    good_cell_at i f =
        let c = (get_or s.writes i no_entry).cell in
        let x = (get_or s.writes i no_entry).amount in
        let e : set g.core.cells c x ≡ emit (take (i + 1) s.writes) (full m σ C) = rw add-one (ap (λ z. set z c x) f.2 ∙ sym (emit_take s.writes i no_entry (full m σ C) f.1)) in
        cond_both (ltb (i + 1) (length s.writes)) _ _ (λ p. Fine (Cell i) (does (CellSet c x) p))
        (λ l. busy (Cell i) (cell_set c x g.core) (Some (to (Mark (i + 1)) s)) GoneOn Nothing v C (sh_cell m σ g.core C sh c x f.0.odd f.3) (later_cell m σ g.core C sh c x) (f.0, ltb-true (i + 1) (length s.writes) l, e) (works refl f.0.odd) tt tt)
        (λ l. busy (Cell i) (cell_set c x g.core) (Some (to Release s)) GoneOn Nothing v C (sh_cell m σ g.core C sh c x f.0.odd f.3) (later_cell m σ g.core C sh c x) (f.0, e ∙ ap (λ W. emit W (full m σ C)) (take_all (i + 1) s.writes (ltb-false (i + 1) (length s.writes) l))) (works refl f.0.odd) tt tt)

    good_release : Facts m σ g.core g.flag C k s v Release → Fine Release (step_at m g k s Release)
    good_release f =
        let d = f.0.doing in
        let w : over v.told (full m σ C) ≡ g.core.cells = sym (emit_log v.told (full m σ C)) ∙ ap (λ W. emit W (full m σ C)) (sym f.0.logs.written) ∙ sym f.1 in
        let a : alone m d.who (full m σ C) ≡ record { handed = amounts v.told; cells = g.core.cells } = replay m law d.valid (omega (arith, length_full m σ C, d.fits)) f.0.ends.asked ∙ ap {B = Outcome} (λ z. record { handed = amounts v.told; cells = z }) w in
        subst (λ z. Good m σ g C k Release v (out_of m g k s (step_at m g k s Release)) v (with_body z g.core.number (amounts v.told) C)) (sym d.seated)
        (busy Release (numbered (g.core.number + 1) g.core) (seat_to m (after_release s.way) s) (Committed g.core.number) Nothing v (record { number = g.core.number; body = d.who; handed = amounts v.told } ∷ C)
        (sh_commit m σ g.core C sh d.who (amounts v.told) f.0.odd a)
        (later_commit m σ g.core C sh d.who (amounts v.told) f.0.odd) (left _ _ s.way) (works refl f.0.odd) tt tt)
      where
        left : (x : Core) (C' : List (Commit B)) (y : Way) → Mine m σ x g.flag C' k v (seat_to m (after_release y) s)
        left x C' One = tt
        left x C' Two = f.0.helper
        left x C' Three = f.0.helper

    good_let_go : Facts m σ g.core g.flag C k s v LetGo → Fine LetGo (step_at m g k s LetGo)
    good_let_go f = by s.way
      where
        sh' : Sh m σ (numbered (g.core.number - 1) g.core) C
        sh' = sh_give m σ g.core C sh f.2 f.3 f.4

        l : Later m σ g.core C (numbered (g.core.number - 1) g.core) C
        l = later_give m σ g.core C sh f.2

        by : (y : Way) → Fine LetGo (let_go_step y)
        by One = busy LetGo (numbered (g.core.number - 1) g.core) (Some (to Begin s)) BrokenOff Nothing v C sh' l (f.0, f.1) (works refl f.2) tt f.0
        by Two = busy LetGo (numbered (g.core.number - 1) g.core) (Some (to Quit s)) GoneOn Nothing v C sh' l (f.0, f.1) (works refl f.2) tt tt
        by Three = busy LetGo (numbered (g.core.number - 1) g.core) (Some (to Quit s)) GoneOn Nothing v C sh' l (f.0, f.1) (works refl f.2) tt tt

    -- Any step
    pub good : (p : Phase) → Facts m σ g.core g.flag C k s v p → Fine p (step_at m g k s p)
    good Reserve f = good_reserve f
    good MasterLook f = good_mlook f
    good Take f = good_mtake f
    good MasterRun f = good_master f (m.asks s.body) refl
    good (Put c x) f = good_mput c x f
    good Begin f = good_begin f
    good Run f = good_run f (m.asks s.body) refl
    good (Check c x) f = good_check c x f
    good Wait f = good_wait f
    good (Look o) f = look_good (Look o) o (λ z. absurd (true≢false z)) f.0 f.1 f.2 s.way
    good (Prevalidate c i) f = good_pre c i f
    good (Swap o c) f = good_swap o c f
    good (Validate i) f = good_validate i f
    good (Mark i) f = good_mark_at i f
    good (Cell i) f = good_cell_at i f
    good Release f = good_release f
    good LetGo f = good_let_go f
    good Quit f = broken Quit (without k g.queue) f.0 f.1
    good Leave f = calm Leave (without k g.queue) None GoneOn Nothing v (λ z. absurd (false≢true z)) tt tt tt
