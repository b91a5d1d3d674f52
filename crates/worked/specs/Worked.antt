-- The worked examples: nine runs and readings, each computed by the definitions of the machine, of money and of imports from
-- the opened book or the text on, and held to the numbers that a reader can follow by hand.
use Rattle.std.specs.Prelude.{◌≡◌, ℕ, zero, suc, ◌^◌, true, List, [], ◌∷◌, ◌++◌, replicate, ℤ, pos, negsuc, Some, None, Ok, Err, codes, Option, Result, slice_index_or}
use Rattle.money.specs.declared.amount.AmountFault.{AmountFault}
use Rattle.money.specs.declared.amount.AmountFault.TheVariants.{Form, Limit}
use Rattle.money.specs.Amounts.{places}
use Rattle.money.specs.Faults.{amount_fault_number, ReadsAmount}
use Rattle.imports.specs.declared.posting.Posting.{Posting}
use Rattle.imports.specs.declared.posting.Posting.TheVariants.{Post}
use Rattle.imports.specs.Texts.{row}
use Rattle.body.specs.declared.steps.ScriptStep.TheVariants.{Read, Put}
use Rattle.journal.specs.declared.record.Record.TheVariants.{Change, Commit}
use Rattle.lane.specs.Calls.{open_refusal, open_world}
use Rattle.lane.specs.Journals.{recorded}
use Rattle.lane.specs.Worlds.{World}
use Rattle.worked.specs.Planned.{Planned, script, total, importing, ends_as}
use Rattle.worked.specs.Turns.{Reply, gone_on, broken_off, committed, too_long, opened, seated, replies, after}

-- Four cells, and the numbers of the kinds.
abbrev four : List ℤ
four = pos 10 ∷ pos 20 ∷ pos 30 ∷ pos 40 ∷ []

abbrev as_import : ℕ
as_import = 1

abbrev as_total : ℕ
as_total = 2

abbrev as_script : ℕ
as_script = 3

-- What a body at its end has as its result, if a seat has one.
abbrev result_of : Option (Planned ℕ) → Option ℕ
result_of None = None
result_of (Some b) = Some (ends_as 0 b)

-- n numbers from this one on.
abbrev from : ℕ → ℕ → List ℕ
from c zero = []
from c (suc n) = c ∷ from (suc c) n

-- 1: the master with the script "read 0, put 5 into 1".
abbrev first_book : World (Planned (Unit {0}))
first_book = seated as_script 0 0 (script (Read 0 ∷ Put 1 (pos 5) ∷ [])) (open_world (opened four))

-- 2 and 3: the helper with "read 0", the master with "put 5" into a cell.
abbrev read_and_put : ℕ → World (Planned (Unit {0}))
read_and_put c =
    seated as_script 0 0 (script (Put c (pos 5) ∷ [])) (seated as_script 1 1 (script (Read 0 ∷ [])) (open_world (opened four)))

-- The helper begins and loads cell 0, the master goes from its reservation to its commit, the helper checks.
abbrev loaded_then_put : List ℕ
loaded_then_put = replicate 2 1 ++ (replicate 6 0 ++ (1 ∷ []))

abbrev check_breaks_off : List Reply
check_breaks_off = replicate 7 gone_on ++ (committed 1 ∷ broken_off ∷ [])

-- 4 and 5: the helper with "put 7 into 0" by way 1, and the master with "put 5 into 1".
abbrev helper_puts : World (Planned (Unit {0}))
helper_puts =
    seated as_script 0 0 (script (Put 1 (pos 5) ∷ [])) (seated as_script 1 1 (script (Put 0 (pos 7) ∷ [])) (open_world (opened four)))

-- 6: a total of 65 cells that hold 0.
abbrev sums_65 : World (Planned (Unit {0}))
sums_65 = seated as_total 1 1 (total 0 64 0) (open_world (opened (replicate 65 (pos 0))))

-- 7 and 8: reading this field of an amount in DKK may answer this, and nothing else.
abbrev IsReadAs : List ℕ → Result ℤ AmountFault → Type 0
IsReadAs field r = ReadsAmount (places (codes "DKK")) field r × ((s : Result ℤ AmountFault) → ReadsAmount (places (codes "DKK")) field s → s ≡ r)

-- 9: an import of one line, on a cell that holds the limit.
abbrev one_cent : Posting
one_cent = Post 0 (pos 1)

abbrev at_the_limit : World (Planned ℕ)
at_the_limit = seated as_import 0 0 (importing (one_cent ∷ [])) (open_world (opened (pos (10 ^ 15) ∷ [])))

pub record Worked : Type 0 where
  -- 1: the master commits at its seventh step and not before, under number 1. The number is 2 then, cell 1 is 5, and the
  -- journal has the change and the commit.
  pub master_commits_at_its_seventh_step :
      (open_refusal (opened four) ≡ None)
      × (replies as_script (replicate 7 0) first_book ≡ replicate 6 gone_on ++ (committed 1 ∷ []))
      × ((after as_script (replicate 7 0) first_book).shared.core.number ≡ 2)
      × ((after as_script (replicate 7 0) first_book).shared.core.cells ≡ pos 10 ∷ pos 5 ∷ pos 30 ∷ pos 40 ∷ [])
      × (recorded (after as_script (replicate 7 0) first_book) ≡ Change 1 1 (pos 5) ∷ Commit 1 0 3 7 1 ∷ [])
  -- 2: a commit that touches a cell between a helper's load and its check breaks the attempt off.
  pub loaded_cell_is_put : replies as_script loaded_then_put (read_and_put 0) ≡ check_breaks_off
  -- 3: so does one that touches a cell with the same mark: with two marks, cell 2 has that of cell 0.
  pub cell_with_the_same_mark_is_put : replies as_script loaded_then_put (read_and_put 2) ≡ check_breaks_off
  -- 4: the master reserves when the helper is about to emit. The mark becomes 1: the number alone, though the flag is set.
  pub mark_has_no_flag :
      (replies as_script (replicate 5 1 ++ (0 ∷ 1 ∷ [])) helper_puts ≡ replicate 7 gone_on)
      × ((after as_script (replicate 5 1 ++ (0 ∷ 1 ∷ [])) helper_puts).shared.flag ≡ true)
      × ((after as_script (replicate 5 1 ++ (0 ∷ 1 ∷ [])) helper_puts).shared.core.marks ≡ 1 ∷ 0 ∷ [])
  -- 5: by way 1 the helper commits at its eighth step and not before, under number 1; cell 0 is 7.
  pub helper_commits_at_its_eighth_step :
      (replies as_script (replicate 8 1) helper_puts ≡ replicate 7 gone_on ++ (committed 1 ∷ []))
      × ((after as_script (replicate 8 1) helper_puts).shared.core.number ≡ 2)
      × ((after as_script (replicate 8 1) helper_puts).shared.core.cells ≡ pos 7 ∷ pos 20 ∷ pos 30 ∷ pos 40 ∷ [])
  -- 6: a read log has 64 entries. The helper begins, and loads and checks cells 0 to 63, which fill the log; it loads cell 64,
  -- and the check of that answers that the transaction is too long.
  pub sixty_fifth_entry_is_too_long :
      (open_refusal (opened (replicate 65 (pos 0))) ≡ None)
      × (replies as_total (replicate 131 1) sums_65 ≡ replicate 130 gone_on ++ (too_long ∷ []))
      × ((after as_total (replicate 131 1) sums_65).reads ≡ from 0 64)
  -- 7: in DKK, -12.50 is -1250, and -0.00 is refused with 66.
  pub minus_is_read_but_not_before_zero :
      IsReadAs (codes "-12.50") (Ok (negsuc 1249))
      × IsReadAs (codes "-0.00") (Err Form)
      × (amount_fault_number Form ≡ 66)
  -- 8: the limit itself is taken, and the next amount is refused with 67.
  pub limit_is_taken_and_no_more :
      IsReadAs (codes "10000000000000.00") (Ok (pos (10 ^ 15)))
      × IsReadAs (codes "10000000000000.01") (Err Limit)
      × (amount_fault_number Limit ≡ 67)
  -- 9: a line "P 0 0.01" on a cell that holds the limit: the master commits with the cell as it was, and counts one line as
  -- unposted.
  pub line_beyond_the_limit_is_unposted :
      (row (places (codes "DKK")) one_cent ≡ codes "P" ++ (9 ∷ (codes "0" ++ (9 ∷ codes "0.01"))))
      × (open_refusal (opened (pos (10 ^ 15) ∷ [])) ≡ None)
      × (replies as_import (replicate 5 0) at_the_limit ≡ replicate 4 gone_on ++ (committed 1 ∷ []))
      × ((after as_import (replicate 5 0) at_the_limit).shared.core.cells ≡ pos (10 ^ 15) ∷ [])
      × (result_of (slice_index_or (after as_import (replicate 5 0) at_the_limit).bodies 0 None) ≡ Some 1)
