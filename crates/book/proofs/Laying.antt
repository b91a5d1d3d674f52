-- A stretch in the middle of a long list, lent on for writing: what an entry to the log at its front does to the list.
use Rattle.std.proofs.Common.{◌≡◌, ℕ, ◌+◌, ◌-◌, ◌<◌, ◌≤◌, List, length, take, drop, set, ap, ◌∙◌, arith}
use Rattle.std.proofs.lemmas.List.{take-take}
use borrow.Rule.Slice.PartMut.{put_mid, mid_of, set_mid_at, mid_len}
use Rattle.lane.specs.Logs.{laid, place_by}
use Rattle.lane.specs.Worlds.{stretch}

module _ {E : Type 0} (cell : E → ℕ) (x : E) (list : List E) (base size used : ℕ) (within : base + size ≤ length list) (few : used ≤ size) where
  -- The log is the front of the stretch.
  front : take used (mid_of base (base + size - base) list) ≡ stretch list base used
  front = take-take used (base + size - base) (drop base list) (omega arith)

  pub laid_within : (after : List E) → place_by cell (cell x) (stretch list base used) < size → after ≡ set (mid_of base (base + size - base) list) (place_by cell (cell x) (take used (mid_of base (base + size - base) list))) x → put_mid base (base + size - base) list after ≡ laid cell x (stretch list base used) base list
  laid_within after room e =
      let n : length (mid_of base (base + size - base) list) ≡ base + size - base = mid_len base (base + size) list within in
      let p : place_by cell (cell x) (stretch list base used) < length (mid_of base (base + size - base) list) = omega arith in
      ap (λ z. put_mid base (base + size - base) list z) (e ∙ ap (λ z. set (mid_of base (base + size - base) list) (place_by cell (cell x) z) x) front)
      ∙ set_mid_at base (base + size - base) (place_by cell (cell x) (stretch list base used)) list x p
