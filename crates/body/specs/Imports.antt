-- An import: books its postings in order.
use Rattle.std.specs.Prelude.{◌≡◌, ℕ, suc, ◌+◌, ◌-◌, ◌^◌, min, Bool, cond, ◌&&◌, List, [], ◌∷◌, drop, ℤ, ◌+ℤ◌, ◌-ℤ◌, Some, None, Option, refl}
use Rattle.std.specs.Int.{saturate_to_bits}
use Rattle.imports.specs.declared.checked.Checked.{Checked}
use Rattle.imports.specs.declared.posting.Posting.{Posting}
use Rattle.imports.specs.declared.posting.Posting.TheVariants.{Post, Transfer}
use Rattle.imports.specs.Texts.{posting_length, total_length}
use Rattle.body.specs.declared.body.Body.{Ghosts}
use Rattle.body.specs.declared.importing.Import.{Import}
use Rattle.body.specs.declared.importing.ImportStep.{ImportStep}
use Rattle.body.specs.declared.importing.ImportStep.TheVariants as steps
use Rattle.body.specs.declared.request.Request.{Request}
use Rattle.body.specs.declared.request.Request.TheVariants as requests
use Rattle.body.specs.Plans.{Plan, read, write, end}
use Rattle.body.specs.Reading.{postings, place}
use Rattle.body.specs.Tests.{kept, on_read, on_write, unless_end}
use Rattle.money.specs.Amounts.{within_limit}

-- A post can be booked on a cell that holds x.
abbrev pub post_good : ℤ → ℤ → Bool
post_good amount x = within_limit x && within_limit (x +ℤ amount)

-- A transfer can be booked on cells that hold x and y.
abbrev pub transfer_good : ℤ → ℤ → ℤ → Bool
transfer_good amount x y = (within_limit x && within_limit y) && (within_limit (x -ℤ amount) && within_limit (y +ℤ amount))

-- The postings in order, n lines having been left unposted before. A post reads its cell and writes the sum. A transfer
-- reads both cells, then writes the first less the amount and the second plus it. A line where a given amount or a new one
-- is beyond the limit is, after its reads, only counted. The count is the result.
abbrev pub import_plan : List Posting → ℕ → Plan ℕ
import_plan [] n = end n
import_plan (Post cell amount ∷ ps) n =
    read cell (λ x. cond (post_good amount x) (write cell (x +ℤ amount) (import_plan ps n)) (import_plan ps (suc n)))
import_plan (Transfer from to amount ∷ ps) n =
    read from (λ x. read to (λ y.
    cond (transfer_good amount x y)
    (write from (x -ℤ amount) (write to (y +ℤ amount) (import_plan ps n)))
    (import_plan ps (suc n))))

-- What an import holds and asks, step by step.
abbrev pub posting_asks : Posting → Request
posting_asks (Post cell amount) = requests.Read cell
posting_asks (Transfer from to amount) = requests.Read from

abbrev pub import_step_asks : ImportStep → Request
import_step_asks (steps.Read p) = posting_asks p
import_step_asks (steps.ReadOther from to amount held) = requests.Read to
import_step_asks (steps.WriteBoth from left to grown) = requests.Write from left
import_step_asks (steps.Write cell grown) = requests.Write cell grown
import_step_asks steps.Done = requests.End

abbrev pub import_reach : Import → ℕ
import_reach b = b.checked.totals.reach

abbrev pub import_asks : Import → Request
import_asks b = kept (import_reach b) (import_step_asks b.step)

-- The same import at another step.
abbrev pub import_at : Import → ImportStep → Import
import_at b s = record { checked = b.checked; taken = b.taken; at = b.at; step = s; unposted = b.unposted; placed = b.placed }

-- The next posting is taken from the text, n of them having been taken before; u lines are unposted.
abbrev pub took_next : Checked → ℕ → ℕ → List Posting → Import
took_next i n u [] = record { checked = i; taken = n; at = place i n; step = steps.Done; unposted = u; placed = refl }
took_next i n u (p ∷ ps) = record { checked = i; taken = n + 1; at = place i (n + 1); step = steps.Read p; unposted = u; placed = refl }

abbrev pub next_line : Checked → ℕ → ℕ → Import
next_line i n u = took_next i n u (drop n (postings i))

-- What the text has next, and where the line after it begins.
abbrev pub LineReads : Checked → ℕ → List Posting → Option Posting → ℕ → Type 0
LineReads i n [] r after = r ≡ None
LineReads i n (p ∷ ps) r after = (r ≡ Some p) × (after ≡ place i (n + 1))

abbrev pub LineRead : Import → Option Posting → ℕ → Type 0
LineRead b r after = LineReads b.checked b.taken (drop b.taken (postings b.checked)) r after

-- One line more is unposted. The count of an import that was made never saturates.
abbrev pub one_more : ℕ → ℕ
one_more u = min (u + 1) (2 ^ 32 - 1)

abbrev pub skipped : Import → Import
skipped b = next_line b.checked b.taken (one_more b.unposted)

-- Sums that stop at the bounds of 64 bits; those of an import that was made stay within them.
abbrev pub sum64 : ℤ → ℤ → ℤ
sum64 x y = saturate_to_bits 63 (x +ℤ y)

abbrev pub less64 : ℤ → ℤ → ℤ
less64 x y = saturate_to_bits 63 (x -ℤ y)

-- The writes of a posting, or nothing where a given amount or a new one is beyond the limit.
abbrev pub after_post : ℕ → ℤ → ℤ → Option ImportStep
after_post cell amount x = cond (within_limit x && within_limit (sum64 x amount)) (Some (steps.Write cell (sum64 x amount))) None

abbrev pub after_transfer : ℕ → ℕ → ℤ → ℤ → ℤ → Option ImportStep
after_transfer from to amount x y =
    cond ((within_limit x && within_limit y) && (within_limit (less64 x amount) && within_limit (sum64 y amount)))
    (Some (steps.WriteBoth from (less64 x amount) to (sum64 y amount))) None

abbrev pub entered : Import → Option ImportStep → Import
entered b (Some s) = import_at b s
entered b None = skipped b

abbrev pub after_first : Posting → ℤ → Option ImportStep
after_first (Post cell amount) x = after_post cell amount x
after_first (Transfer from to amount) x = Some (steps.ReadOther from to amount x)

-- What follows an amount that the step is told; a step that reads nothing stays.
abbrev pub after_step : ImportStep → ℤ → Option ImportStep
after_step (steps.Read p) x = after_first p x
after_step (steps.ReadOther from to amount held) x = after_transfer from to amount held x
after_step (steps.WriteBoth from left to grown) x = Some (steps.WriteBoth from left to grown)
after_step (steps.Write cell grown) x = Some (steps.Write cell grown)
after_step steps.Done x = Some steps.Done

-- After an amount that was read.
abbrev pub import_answered : Import → ImportStep → ℤ → Import
import_answered b (steps.Read p) x = entered b (after_first p x)
import_answered b (steps.ReadOther from to amount held) x = entered b (after_transfer from to amount held x)
import_answered b (steps.WriteBoth from left to grown) x = b
import_answered b (steps.Write cell grown) x = b
import_answered b steps.Done x = b

-- After a write that was taken.
abbrev pub import_written : Import → ImportStep → Import
import_written b (steps.Read p) = b
import_written b (steps.ReadOther from to amount held) = b
import_written b (steps.WriteBoth from left to grown) = entered b (Some (steps.Write to grown))
import_written b (steps.Write cell grown) = next_line b.checked b.taken b.unposted
import_written b steps.Done = b

abbrev pub import_told : Import → ℤ → Import
import_told b x = on_read (import_asks b) (import_answered b b.step x) b

abbrev pub import_taken : Import → Import
import_taken b = on_write (import_asks b) (import_written b b.step) b

abbrev pub import_begin : Import → Import
import_begin b = next_line b.checked 0 0

-- The requests that a step still has.
abbrev pub pending : ImportStep → ℕ
pending (steps.Read p) = posting_length p
pending (steps.ReadOther from to amount held) = 3
pending (steps.WriteBoth from left to grown) = 2
pending (steps.Write cell grown) = 1
pending steps.Done = 0

abbrev pub import_weight : Import → ℕ
import_weight b = pending b.step + total_length (drop b.taken (postings b.checked))

abbrev pub import_left : Import → ℕ
import_left b = unless_end (import_asks b) (import_weight b)

abbrev pub import_len : Import → ℕ
import_len b = b.checked.totals.length

abbrev pub import_members : Ghosts Import
import_members = record {
  asks = import_asks;
  told = import_told;
  taken = import_taken;
  begin = import_begin;
  left = import_left;
  reach = import_reach;
  len = import_len;
  KIND = 1;
}
