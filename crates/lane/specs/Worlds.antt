-- A book with the lists that are lent to it, as its calls see them; and where in the long lists each helper's logs lie.
use Rattle.std.specs.Prelude.{ℕ, ◌-◌, ◌*◌, List, take, drop, Option}
use Rattle.journal.specs.declared.record.Record.{Record}
use Rattle.lane.specs.declared.seated.Seated.{Seated}
use Rattle.lane.specs.declared.sizes.Sizes.{Sizes}
use Rattle.lane.specs.declared.step.LogChange.{LogChange}
use Rattle.lane.specs.declared.step.LogChange.TheVariants.{Same, Emptied, Noted, Entered}
use Rattle.lane.specs.declared.written.Written.{Written}
use Rattle.lane.specs.Logs.{laid, used_with, cell_of, itself, most_reads, most_writes}
use Rattle.lane.specs.State.{Shared, Work}

-- Seats are numbered from 0, the master's. A seat is idle where there is no transaction; the body of its last one stays.
-- The first `used` records of the journal are used.
pub record World (B : Type 0) : Type 0 where
  pub name : ℕ
  pub helpers : ℕ
  pub sizes : Sizes
  pub shared : Shared
  pub seats : List (Option Seated)
  pub bodies : List (Option B)
  pub used : ℕ
  pub reads : List ℕ
  pub writes : List Written
  pub journal : List Record

-- Helper k has the entries of the long lists from here on.
abbrev pub reads_from : ℕ → ℕ
reads_from k = most_reads * (k - 1)

abbrev pub writes_from : ℕ → ℕ
writes_from k = most_writes * (k - 1)

-- The n entries from place p on.
abbrev pub stretch : {X : Type 0} → List X → ℕ → ℕ → List X
stretch l p n = take n (drop p l)

module _ {B : Type 0} where
  abbrev pub read_log : World B → ℕ → Seated → List ℕ
  read_log w k s = stretch w.reads (reads_from k) s.reads

  abbrev pub write_log : World B → ℕ → Seated → List Written
  write_log w k s = stretch w.writes (writes_from k) s.writes

  -- The transaction at seat k.
  abbrev pub work_of : World B → ℕ → Seated → B → Work B
  work_of w k s b = record { body = b; way = s.way; start = s.start; reads = read_log w k s; writes = write_log w k s }

-- How many entries of a log are used after a change, and what the long list holds then.
abbrev pub reads_used : LogChange → List ℕ → ℕ → ℕ
reads_used Same R n = n
reads_used Emptied R n = 0
reads_used (Noted c) R n = used_with itself c R n
reads_used (Entered c v) R n = n

abbrev pub writes_used : LogChange → List Written → ℕ → ℕ
writes_used Same W n = n
writes_used Emptied W n = 0
writes_used (Noted c) W n = n
writes_used (Entered c v) W n = used_with cell_of (record { cell = c; amount = v }) W n

abbrev pub reads_laid : LogChange → List ℕ → ℕ → List ℕ → List ℕ
reads_laid Same R p l = l
reads_laid Emptied R p l = l
reads_laid (Noted c) R p l = laid itself c R p l
reads_laid (Entered c v) R p l = l

abbrev pub writes_laid : LogChange → List Written → ℕ → List Written → List Written
writes_laid Same W p l = l
writes_laid Emptied W p l = l
writes_laid (Noted c) W p l = l
writes_laid (Entered c v) W p l = laid cell_of (record { cell = c; amount = v }) W p l
