-- What keeps the code of a sane book within bounds.
use Rattle.std.proofs.Common.{◌≡◌, ℕ, ◌+◌, ◌≤◌, true, length, get_or, Some, None, sym, subst, arith}
use mathlib.Core.Logic.{∥∥₁_elim}
use native.Mathlib.Bridge.{le_prop}
use Rattle.lane.specs.declared.seated.Seated.{Seated}
use Rattle.body.specs.declared.body.Body.{Ghosts}
use Rattle.lane.specs.Calls.{needed, same_sizes, seat_refusal}
use Rattle.lane.specs.Logs.{most_reads, most_writes}
use Rattle.lane.specs.Sane.{Fair, FairSeat, Sane}
use Rattle.lane.specs.Worlds.{World, reads_from, writes_from}
use Rattle.lane.proofs.Sanity.{accepted, lent_from, stretch_fits}

module _ {B : Type 0} (w : World B) (h : ∥ Sane w ∥₁) where
  pub few_helpers : w.helpers ≤ 8
  few_helpers = ∥∥₁_elim h le_prop (λ i. i.sized.few)

  pub few_cells : w.sizes.cells ≤ 4096
  few_cells = ∥∥₁_elim h le_prop (λ i. i.sized.few_cells)

  pub few_records : w.sizes.journal ≤ 65536
  few_records = ∥∥₁_elim h le_prop (λ i. i.sized.few_records)

  -- A transaction that is seated.
  pub seat_few : (m : Ghosts B) (k y : ℕ) (b : B) → None ≡ seat_refusal m w k y b → (k ≤ 8) × (needed k (m.len b) ≤ 65536)
  seat_few m k y b e = let a = accepted m w k y b (sym e) in (omega (arith, few_helpers, a.seat), omega (arith, few_records, a.records))

  -- A seat with a transaction.
  module _ (k : ℕ) (s : Seated) (l : k ≤ w.helpers) (at : get_or w.seats k None ≡ Some s) where
    fair : Sane w → Fair w.used w.shared.queue k s (get_or w.bodies k None)
    fair i = subst (λ x. FairSeat w.used w.shared.queue k x (get_or w.bodies k None)) at (i.fair k)

    pub few_reads : s.reads ≤ most_reads
    few_reads = ∥∥₁_elim h le_prop (λ i. (fair i).few_reads)

    pub few_writes : s.writes ≤ most_writes
    few_writes = ∥∥₁_elim h le_prop (λ i. (fair i).few_writes)

    pub few_made : s.made ≤ 65536
    few_made = ∥∥₁_elim h le_prop (λ i. omega (arith, (fair i).few_made, i.used_within, i.sized.few_records))

    module _ (lent : same_sizes w ≡ true) where
      pub reads_within : reads_from k + s.reads ≤ length w.reads
      reads_within = ∥∥₁_elim h le_prop (λ i. stretch_fits 64 k w.helpers s.reads (length w.reads) l (λ e. ((fair i).none_logged e).0) (fair i).few_reads (omega (arith, (lent_from w lent).reads, i.sized.long_reads)))

      pub writes_within : writes_from k + s.writes ≤ length w.writes
      writes_within = ∥∥₁_elim h le_prop (λ i. stretch_fits 32 k w.helpers s.writes (length w.writes) l (λ e. ((fair i).none_logged e).1) (fair i).few_writes (omega (arith, (lent_from w lent).writes, i.sized.long_writes)))
