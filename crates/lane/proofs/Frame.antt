-- What a seat is known by survives the steps of the others.
use Rattle.std.proofs.Common.{◌≡◌, ℕ, ◌%◌, ◌<◌, ◌≤◌, Bool, true, false, ◌⊎◌, List, length, get_or, take, ℤ, pos, Some, None, Option, sym, refl, ap, ◌∙◌, subst, inl, inr, true≢false, arith}
use mathlib.Core.Bool.{false≢true}
use Rattle.body.specs.declared.body.Body.{Ghosts}
use Rattle.body.specs.Serial.{Commit}
use Rattle.lane.specs.declared.phase.Phase.{Phase}
use Rattle.lane.specs.declared.phase.Phase.TheVariants.{Reserve, MasterLook, Take, MasterRun, Put, Begin, Run, Check, Wait, Look, Prevalidate, Swap, Validate, Mark, Cell, Release, LetGo, Quit, Leave}
use Rattle.lane.specs.State.{Work, Seat, entries, Core, base, mark_of}
use Rattle.lane.proofs.Bodies.{over}
use Rattle.lane.proofs.Orders.{state}
use Rattle.lane.proofs.Logs.{emit}
use Rattle.lane.proofs.Inv.{View, holds, holds_seat, Seen, Sure, Doing, Ready, Emits, Masters, Facts, Mine, Later, Quiet}
use Rattle.lane.proofs.Changes.{later_quiet}

module _ {B : Type 0} (m : Ghosts B) (σ : List ℤ) where
  -- Who holds the lane sees an odd number
  pub held_odd : (g : Core) (fl : Bool) (C : List (Commit B)) (k : ℕ) (s : Work B) (v : View B) (p : Phase) → holds p ≡ true → Facts m σ g fl C k s v p → g.number % 2 ≡ 1
  held_odd g fl C k s v Reserve h f = absurd (false≢true h)
  held_odd g fl C k s v MasterLook h f = absurd (false≢true h)
  held_odd g fl C k s v Take h f = absurd (false≢true h)
  held_odd g fl C k s v MasterRun h f = f.odd
  held_odd g fl C k s v (Put c x) h f = f.0.odd
  held_odd g fl C k s v Begin h f = absurd (false≢true h)
  held_odd g fl C k s v Run h f = absurd (false≢true h)
  held_odd g fl C k s v (Check c x) h f = absurd (false≢true h)
  held_odd g fl C k s v Wait h f = absurd (false≢true h)
  held_odd g fl C k s v (Look o) h f = absurd (false≢true h)
  held_odd g fl C k s v (Prevalidate c i) h f = absurd (false≢true h)
  held_odd g fl C k s v (Swap o c) h f = absurd (false≢true h)
  held_odd g fl C k s v (Validate i) h f = f.2
  held_odd g fl C k s v (Mark i) h f = f.0.odd
  held_odd g fl C k s v (Cell i) h f = f.0.odd
  held_odd g fl C k s v Release h f = f.0.odd
  held_odd g fl C k s v LetGo h f = f.2
  held_odd g fl C k s v Quit h f = absurd (false≢true h)
  held_odd g fl C k s v Leave h f = absurd (false≢true h)

  module _ (g g' : Core) (fl fl' : Bool) (C C' : List (Commit B)) (k : ℕ) (s : Work B) (v : View B) (up : k ≡ 0 → fl ≡ true → fl' ≡ true) where
    module _ (l : Later m σ g C g' C') (kept : k ≡ 0 → fl ≡ true → g.number % 2 ≡ 0 → g'.number % 2 ≡ 0) where
      ready_later : Ready m σ g C k s v → Ready m σ g' C' k s v
      ready_later r = record { helper = r.helper; doing = subst (λ z. Doing m σ z s v) (sym (l.states v.start r.begun.early)) r.doing; begun = record { is = r.begun.is; early = omega (arith, r.begun.early, l.grows) }; logs = r.logs }

      -- A mark changes only to above what anybody remembers
      seen_later : (f i : ℕ) → v.start ≤ base g.number → f ≤ base g.number → Seen g s v.start f i → Seen g' s v.start f i
      seen_later f i e h q j b = by (l.marks (get_or (entries s) j 0)) (q j b)
        where
          by : (mark_of g' (get_or (entries s) j 0) ≡ mark_of g (get_or (entries s) j 0)) ⊎ (base g.number < mark_of g' (get_or (entries s) j 0)) → (mark_of g (get_or (entries s) j 0) ≤ v.start) ⊎ (f < mark_of g (get_or (entries s) j 0)) → (mark_of g' (get_or (entries s) j 0) ≤ v.start) ⊎ (f < mark_of g' (get_or (entries s) j 0))
          by (inl a) (inl c) = inl (omega arith)
          by (inl a) (inr c) = inr (omega arith)
          by (inr a) c = inr (omega arith)

      sure_later : (o : Option ℕ) → v.start ≤ base g.number → Sure g s v.start o → Sure g' s v.start o
      sure_later None e q = tt
      sure_later (Some f) e q = (omega (arith, q.0, l.grows), seen_later f (length (entries s)) e q.0 q.1)

      pub frame_later : (p : Phase) → holds p ≡ false → Facts m σ g fl C k s v p → Facts m σ g' fl' C' k s v p
      frame_later Reserve h f = f
      frame_later MasterLook h f = (f.0, f.1, up f.0 f.2)
      frame_later Take h f = (f.0, f.1, up f.0 f.2, kept f.0 f.2 f.3)
      frame_later MasterRun h f = absurd (true≢false h)
      frame_later (Put c x) h f = absurd (true≢false h)
      frame_later Begin h f = f
      frame_later Run h f = ready_later f
      frame_later (Check c x) h f = (ready_later f.0, f.1, f.2, by (l.marks c) f.3)
        where
          by : (mark_of g' c ≡ mark_of g c) ⊎ (base g.number < mark_of g' c) → (v.start < mark_of g c) ⊎ (x ≡ get_or (state m σ v.start C) c (pos 0)) → (v.start < mark_of g' c) ⊎ (x ≡ get_or (state m σ v.start C') c (pos 0))
          by a (inr e) = inr (e ∙ ap (λ z. get_or z c (pos 0)) (sym (l.states v.start f.0.begun.early)))
          by (inl a) (inl e) = inl (omega arith)
          by (inr a) (inl e) = inl (omega (arith, f.0.begun.early))
      frame_later Wait h f = (ready_later f.0, f.1)
      frame_later (Look o) h f = (ready_later f.0, f.1, sure_later o f.0.begun.early f.2)
      frame_later (Prevalidate c i) h f = (ready_later f.0, f.1, f.2, omega (arith, f.3, l.grows), seen_later c i f.0.begun.early f.3 f.4)
      frame_later (Swap o c) h f = (ready_later f.0, f.1, f.2, sure_later o f.0.begun.early f.3)
      frame_later (Validate i) h f = absurd (true≢false h)
      frame_later (Mark i) h f = absurd (true≢false h)
      frame_later (Cell i) h f = absurd (true≢false h)
      frame_later Release h f = absurd (true≢false h)
      frame_later LetGo h f = absurd (true≢false h)
      frame_later Quit h f = f
      frame_later Leave h f = f

  module _ (g : Core) (fl fl' : Bool) (C C' : List (Commit B)) (k : ℕ) (s : Work B) (v : View B) (q : Quiet m σ g C g C') where
    emits_quiet : Emits m σ g.number C k s v → Emits m σ g.number C' k s v
    emits_quiet e = record { helper = e.helper; doing = subst (λ z. Doing m σ z s v) (sym q.all) e.doing; logs = e.logs; ends = e.ends; odd = e.odd }

    masters_quiet : Masters m σ g.number g.cells C k s v → Masters m σ g.number g.cells C' k s v
    masters_quiet e = record { master = e.master; doing = subst (λ z. Doing m σ z s v) (sym q.all) e.doing; now = e.now; cells = e.cells ∙ ap (over v.told) (sym q.all); odd = e.odd }

    frame_holding : (p : Phase) → holds p ≡ true → Facts m σ g fl C k s v p → Facts m σ g fl' C' k s v p
    frame_holding Reserve h f = absurd (false≢true h)
    frame_holding MasterLook h f = absurd (false≢true h)
    frame_holding Take h f = absurd (false≢true h)
    frame_holding MasterRun h f = masters_quiet f
    frame_holding (Put c x) h f = (masters_quiet f.0, f.1, f.2)
    frame_holding Begin h f = absurd (false≢true h)
    frame_holding Run h f = absurd (false≢true h)
    frame_holding (Check c x) h f = absurd (false≢true h)
    frame_holding Wait h f = absurd (false≢true h)
    frame_holding (Look o) h f = absurd (false≢true h)
    frame_holding (Prevalidate c i) h f = absurd (false≢true h)
    frame_holding (Swap o c) h f = absurd (false≢true h)
    frame_holding (Validate i) h f = (record { helper = f.0.helper; doing = subst (λ z. Doing m σ z s v) (sym (q.states v.start)) f.0.doing; begun = f.0.begun; logs = f.0.logs }, f.1, f.2, f.3 ∙ sym q.all, f.4, f.5, f.6)
    frame_holding (Mark i) h f = (emits_quiet f.0, f.1, f.2 ∙ ap (emit (take i s.writes)) (sym q.all))
    frame_holding (Cell i) h f = (emits_quiet f.0, f.1, f.2 ∙ ap (emit (take i s.writes)) (sym q.all), f.3)
    frame_holding Release h f = (emits_quiet f.0, f.1 ∙ ap (emit s.writes) (sym q.all))
    frame_holding LetGo h f = (f.0, f.1, f.2, f.3 ∙ sym q.all, f.4, f.5)
    frame_holding Quit h f = absurd (false≢true h)
    frame_holding Leave h f = absurd (false≢true h)

  module _ (g g' : Core) (fl fl' : Bool) (C C' : List (Commit B)) (k : ℕ) (v : View B) (up : k ≡ 0 → fl ≡ true → fl' ≡ true) where
    -- A seat that does not hold the lane
    pub mine_later : (x : Option (Seat B)) → Later m σ g C g' C' → (k ≡ 0 → fl ≡ true → g.number % 2 ≡ 0 → g'.number % 2 ≡ 0) → (holds_seat x ≡ true → ⊥) → Mine m σ g fl C k v x → Mine m σ g' fl' C' k v x
    mine_later None l kept h f = tt
    mine_later (Some s) l kept h f = frame_later g g' fl fl' C C' k s.work v up l kept s.phase (by (holds s.phase) refl) f
      where
        by : (b : Bool) → holds s.phase ≡ b → holds s.phase ≡ false
        by true e = absurd (h e)
        by false e = e

    -- Any seat, where nothing changes but by a reader's commit
    pub mine_quiet : (x : Option (Seat B)) → Quiet m σ g C g' C' → Mine m σ g fl C k v x → Mine m σ g' fl' C' k v x
    mine_quiet None q f = tt
    mine_quiet (Some s) q f = by (holds s.phase) refl
      where
        kept : k ≡ 0 → fl ≡ true → g.number % 2 ≡ 0 → g'.number % 2 ≡ 0
        kept _ _ e = subst (λ (z : Core). z.number % 2 ≡ 0) (sym q.same) e

        q' : Quiet m σ g C g C'
        q' = record { same = refl; states = q.states; all = q.all }

        by : (b : Bool) → holds s.phase ≡ b → Facts m σ g' fl' C' k s.work v s.phase
        by true e = subst (λ z. Facts m σ z fl' C' k s.work v s.phase) (sym q.same) (frame_holding g fl fl' C C' k s.work v q' s.phase e f)
        by false e = frame_later g g' fl fl' C C' k s.work v up (later_quiet m σ g g' C C' q) kept s.phase e f

  pub mine_odd : (g : Core) (fl : Bool) (C : List (Commit B)) (k : ℕ) (v : View B) (x : Option (Seat B)) → holds_seat x ≡ true → Mine m σ g fl C k v x → g.number % 2 ≡ 1
  mine_odd g fl C k v None h f = absurd (false≢true h)
  mine_odd g fl C k v (Some s) h f = held_odd g fl C k s.work v s.phase h f
