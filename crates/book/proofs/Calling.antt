-- From a book without its lists to the same with any lists, and that calls keep a book sane.
use Rattle.std.proofs.Common.{◌≡◌, ℕ, Bool, false, List, [], length, replicate, Some, None, Option, sym, refl, ap, ◌∙◌, subst, MutBor}
use mathlib.Core.Logic.{∥∥₁_map}
use Rattle.body.specs.declared.body.Body.{Ghosts}
use Rattle.lane.specs.declared.refusal.SeatRefusal.{SeatRefusal}
use Rattle.lane.specs.Calls.{Opened, open_refusal, open_world, seat_by, seat_call, seat_refusal, seat_world, step_call}
use Rattle.lane.specs.Sane.{Sane}
use Rattle.lane.specs.Worlds.{World}
use Rattle.lane.proofs.Sanity.{opens_well, sane_open, sane_seat, sane_step}
use Rattle.book.specs.declared.desk.Desk.{Desk}
use Rattle.book.specs.declared.lists.Lists.{Lists}
use Rattle.book.specs.Views.{bare, bare_open, opened_with, world}

module _ {B : Type 0} where
  -- The same book, lent these lists.
  abbrev relent : World B → Lists → World B
  relent w l = record {
    name = w.name;
    helpers = w.helpers;
    sizes = w.sizes;
    shared = record { core = record { number = w.shared.core.number; cells = l.cells.now; marks = l.marks.now }; flag = w.shared.flag; paused = w.shared.paused; queue = w.shared.queue };
    seats = w.seats;
    bodies = w.bodies;
    used = w.used;
    reads = l.reads.now;
    writes = l.writes.now;
    journal = l.journal.now;
  }

  -- Being sane has nothing to do with the lists.
  sane_to : (d : Desk B) (l : Lists) → Sane (bare d) → Sane (world d l)
  sane_to d l i = record { sized = i.sized; all_seated = i.all_seated; all_bodies = i.all_bodies; used_within = i.used_within; below = i.below; above = i.above; short_queue = i.short_queue; fair = i.fair }

  sane_off : (d : Desk B) (l : Lists) → Sane (world d l) → Sane (bare d)
  sane_off d l i = record { sized = i.sized; all_seated = i.all_seated; all_bodies = i.all_bodies; used_within = i.used_within; below = i.below; above = i.above; short_queue = i.short_queue; fair = i.fair }

  pub sane_lent : (d : Desk B) (l : Lists) → ∥ Sane (bare d) ∥₁ → ∥ Sane (world d l) ∥₁
  sane_lent d l h = ∥∥₁_map h (sane_to d l)

  pub sane_bare : (d : Desk B) (l : Lists) → ∥ Sane (world d l) ∥₁ → ∥ Sane (bare d) ∥₁
  sane_bare d l h = ∥∥₁_map h (sane_off d l)

  -- A pause that begins or ends.
  abbrev pub pausing : Bool → Desk B → Desk B
  pausing p d = record {
    name = d.name;
    helpers = d.helpers;
    sizes = d.sizes;
    common = record { number = d.common.number; flag = d.common.flag; paused = p; queue = d.common.queue };
    chairs = d.chairs;
    used = d.used;
  }

  pub sane_pausing : (p : Bool) (d : Desk B) → ∥ Sane (bare d) ∥₁ → ∥ Sane (bare (pausing p d)) ∥₁
  sane_pausing p d h = ∥∥₁_map h by
    where
      by : Sane (bare d) → Sane (bare (pausing p d))
      by i = record { sized = i.sized; all_seated = i.all_seated; all_bodies = i.all_bodies; used_within = i.used_within; below = i.below; above = i.above; short_queue = i.short_queue; fair = i.fair }

  -- Seat and step.
  module _ (m : Ghosts B) (d d' : Desk B) where
    pub placed : (k y t : ℕ) (b : B) → None ≡ seat_refusal m (bare d) k y b → bare d' ≡ seat_world m (bare d) k y t b → bare d' ≡ (seat_call m (bare d) k y t b).world
    placed k y t b n e = e ∙ ap (λ r. (seat_by m (bare d) k y t b r).world) n

    pub seated_lent : (k y t : ℕ) (b : B) → bare d' ≡ (seat_call m (bare d) k y t b).world → (l : Lists) → world d' l ≡ (seat_call m (world d l) k y t b).world
    seated_lent k y t b e l = ap (λ w. relent w l) e ∙ by (seat_refusal m (bare d) k y b)
      where
        by : (r : Option SeatRefusal) → relent (seat_by m (bare d) k y t b r).world l ≡ (seat_by m (world d l) k y t b r).world
        by (Some r) = refl
        by None = refl

    pub seated_sane : (k y t : ℕ) (b : B) → bare d' ≡ (seat_call m (bare d) k y t b).world → ∥ Sane (bare d) ∥₁ → ∥ Sane (bare d') ∥₁
    seated_sane k y t b e h = ∥∥₁_map h (λ i. subst (λ w. Sane w) (sym e) (sane_seat m (bare d) i k y t b))

    pub stepped_sane : (l l' : Lists) (k : ℕ) → world d' l' ≡ (step_call m (world d l) k).world → ∥ Sane (bare d) ∥₁ → ∥ Sane (bare d') ∥₁
    stepped_sane l l' k e h = sane_bare d' l' (∥∥₁_map h (λ i. subst (λ w. Sane w) (sym e) (sane_step m (world d l) (sane_to d l i) k)))

  -- Open.
  pub opened_lent : (name helpers number : ℕ) (l : Lists) (marks : MutBor (List ℕ)) (d : Desk B) → bare d ≡ bare_open (opened_with name helpers number l) → marks.now ≡ replicate (length l.marks.now) 0
      → world d (record { cells = l.cells; marks = marks; reads = l.reads; writes = l.writes; journal = l.journal }) ≡ open_world (opened_with name helpers number l)
  opened_lent name helpers number l marks d e z =
      ap (λ w. relent w (record { cells = l.cells; marks = marks; reads = l.reads; writes = l.writes; journal = l.journal })) e
      ∙ ap {B = World B} (λ x. with_marks x) z
    where
      with_marks : List ℕ → World B
      with_marks x =
          let o = open_world {B = B} (opened_with name helpers number l) in
          record {
            name = o.name;
            helpers = o.helpers;
            sizes = o.sizes;
            shared = record { core = record { number = number; cells = l.cells.now; marks = x }; flag = false; paused = false; queue = [] };
            seats = o.seats;
            bodies = o.bodies;
            used = o.used;
            reads = o.reads;
            writes = o.writes;
            journal = o.journal;
          }

  pub opened_sane : (o : Opened) (d : Desk B) (l : Lists) → None ≡ open_refusal o → world d l ≡ open_world o → ∥ Sane (bare d) ∥₁
  opened_sane o d l n e = sane_bare d l ∣ subst (λ w. Sane w) (sym e) (sane_open o (opens_well o (sym n))) ∣₁
