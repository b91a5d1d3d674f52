-- An import keeps the laws. Assumes nothing.
use Rattle.std.specs.Prelude.{◌≡◌, ℕ, ◌+◌, ◌<◌, Bool, true, false, cond, ◌&&◌, List, [], ◌∷◌, drop, ℤ, Some, None, Option, ◌≢◌, refl}
use Rattle.std.proofs.Common.{sym, ap, ◌∙◌, arith}
use Rattle.std.proofs.Math.Logic.{∥∥₁_elim}
use Rattle.std.proofs.Math.Nat.{ℕ_set}
use Rattle.std.proofs.lemmas.List.{drop-drop}
use Rattle.imports.specs.declared.checked.Checked.{Checked}
use Rattle.imports.specs.declared.posting.Posting.{Posting}
use Rattle.imports.specs.declared.posting.Posting.TheVariants.{Post, Transfer}
use Rattle.imports.specs.Texts.{total_length}
use Rattle.body.specs.declared.importing.Import.{Import}
use Rattle.body.specs.declared.importing.ImportStep.{ImportStep}
use Rattle.body.specs.declared.importing.ImportStep.TheVariants as steps
use Rattle.body.specs.declared.request.Request.TheVariants.{Read, Write, End}
use Rattle.body.specs.Imports.{import_step_asks, import_reach, took_next, next_line, one_more, skipped, sum64, less64, after_post, after_transfer, entered, import_answered, import_written, import_asks, import_told, import_taken, import_begin, pending, import_weight, import_left, import_len}
use Rattle.body.specs.Meaning.{Lawful, Same}
use mathlib.Core.HLevel.{is_prop→PathP}
use Rattle.body.specs.Reading.{postings, postings_told, place}
use Rattle.body.specs.Tests.{kept}
use Rattle.money.specs.Amounts.{within_limit}
use Rattle.body.specs.Guarded.{Counts, lawful}

-- the next line weighs what is left of the postings
took_weight : (i : Checked) (n u : ℕ) (ps : List Posting) → drop n (postings i) ≡ ps → import_weight (took_next i n u ps) ≡ total_length ps
took_weight i n u [] e = omega (arith, ap total_length e)
took_weight i n u (p ∷ ps) e =
    let rest = sym (drop-drop 1 n (postings i)) ∙ ap (drop 1) e in
    omega (arith, ap total_length rest)

next_weight : (i : Checked) (n u : ℕ) → import_weight (next_line i n u) ≡ total_length (drop n (postings i))
next_weight i n u = took_weight i n u (drop n (postings i)) refl

pub next_checked : (i : Checked) (n u : ℕ) → (next_line i n u).checked ≡ i
next_checked i n u = at (drop n (postings i))
  where
    at : (ps : List Posting) → (took_next i n u ps).checked ≡ i
    at [] = refl
    at (p ∷ ps) = refl

same_by : (b c : Import) → c.checked ≡ b.checked → Same import_begin import_reach import_len b c
same_by b c e = record {
  start = ap (λ i. next_line i 0 0) e;
  reaches = ap (λ (i : Checked). i.totals.reach) e;
  lasts = ap (λ (i : Checked). i.totals.length) e;
}

entered_checked : (b : Import) (o : Option ImportStep) → (entered b o).checked ≡ b.checked
entered_checked b (Some s) = refl
entered_checked b None = next_checked b.checked b.taken (one_more b.unposted)

answered_checked : (b : Import) (s : ImportStep) (x : ℤ) → (import_answered b s x).checked ≡ b.checked
answered_checked b (steps.Read (Post c a)) x = entered_checked b (after_post c a x)
answered_checked b (steps.Read (Transfer f t a)) x = refl
answered_checked b (steps.ReadOther f t a h) x = entered_checked b (after_transfer f t a h x)
answered_checked b (steps.WriteBoth f l t g) x = refl
answered_checked b (steps.Write c g) x = refl
answered_checked b steps.Done x = refl

written_checked : (b : Import) (s : ImportStep) → (import_written b s).checked ≡ b.checked
written_checked b (steps.Read p) = refl
written_checked b (steps.ReadOther f t a h) = refl
written_checked b (steps.WriteBoth f l t g) = refl
written_checked b (steps.Write c g) = next_checked b.checked b.taken b.unposted
written_checked b steps.Done = refl

-- what is still to come after the current posting
abbrev rest : Import → ℕ
rest b = total_length (drop b.taken (postings b.checked))

-- a guarded write is no read, and a guarded read no write
write_not_read : (reach d : ℕ) (v : ℤ) (c : ℕ) → kept reach (Write d v) ≢ Read c
write_not_read reach d v c = at _
  where
    at : (t : Bool) → cond t (Write d v) End ≢ Read c
    at true e = cc
    at false e = cc

read_not_write : (reach d c : ℕ) (v : ℤ) → kept reach (Read d) ≢ Write c v
read_not_write reach d c v = at _
  where
    at : (t : Bool) → cond t (Read d) End ≢ Write c v
    at true e = cc
    at false e = cc

module _ (b : Import) where
  skip_weight : import_weight (skipped b) ≡ rest b
  skip_weight = next_weight b.checked b.taken (one_more b.unposted)

  lower_answered : (s : ImportStep) (x : ℤ) (c : ℕ) → kept (import_reach b) (import_step_asks s) ≡ Read c → import_weight (import_answered b s x) < pending s + rest b
  lower_answered (steps.Read (Post d a)) x c e = at (within_limit x && within_limit (sum64 x a))
    where
      at : (t : Bool) → import_weight (entered b (cond t (Some (steps.Write d (sum64 x a))) None)) < 2 + rest b
      at true = omega arith
      at false = omega (arith, skip_weight)
  lower_answered (steps.Read (Transfer f t a)) x c e = omega arith
  lower_answered (steps.ReadOther f t a h) x c e = at ((within_limit h && within_limit x) && (within_limit (less64 h a) && within_limit (sum64 x a)))
    where
      at : (t' : Bool) → import_weight (entered b (cond t' (Some (steps.WriteBoth f (less64 h a) t (sum64 x a))) None)) < 3 + rest b
      at true = omega arith
      at false = omega (arith, skip_weight)
  lower_answered (steps.WriteBoth f l t g) x c e = absurd (write_not_read (import_reach b) f l c e)
  lower_answered (steps.Write d g) x c e = absurd (write_not_read (import_reach b) d g c e)
  lower_answered steps.Done x c e = cc

  lower_written : (s : ImportStep) (c : ℕ) (v : ℤ) → kept (import_reach b) (import_step_asks s) ≡ Write c v → import_weight (import_written b s) < pending s + rest b
  lower_written (steps.Read (Post d a)) c v e = absurd (read_not_write (import_reach b) d c v e)
  lower_written (steps.Read (Transfer f t a)) c v e = absurd (read_not_write (import_reach b) f c v e)
  lower_written (steps.ReadOther f t a h) c v e = absurd (read_not_write (import_reach b) t c v e)
  lower_written (steps.WriteBoth f l t g) c v e = omega arith
  lower_written (steps.Write d g) c v e = omega (arith, next_weight b.checked b.taken b.unposted)
  lower_written steps.Done c v e = cc

-- the length that an import tells is that of its postings
pub length_told : (i : Checked) → i.totals.length ≡ total_length (postings i)
length_told i = ∥∥₁_elim (postings_told i) (ℕ_set _ _) (λ s. (i.told (postings i) s).2)

pub counts : Counts (λ b. import_step_asks b.step) (λ b x. import_answered b b.step x) (λ b. import_written b b.step) import_begin import_weight import_reach import_len
counts = record {
  lower_read = λ b x c e. lower_answered b b.step x c e;
  lower_write = λ b c v e. lower_written b b.step c v e;
  few = λ b. omega (arith, next_weight b.checked 0 0, length_told b.checked);
  same_read = λ b x. same_by b _ (answered_checked b b.step x);
  same_write = λ b. same_by b _ (written_checked b b.step);
  same_start = λ b. same_by b _ (next_checked b.checked 0 0);
}

pub import_lawful : Lawful import_asks import_told import_taken import_begin import_left import_reach import_len
import_lawful = lawful _ _ _ _ _ _ _ counts

-- imports that agree in what they hold are the same
pub same_import : (b c : Import) → b.checked ≡ c.checked → b.taken ≡ c.taken → b.at ≡ c.at → b.step ≡ c.step → b.unposted ≡ c.unposted → b ≡ c
same_import b c p q r s u =
    λ i. record { checked = p i; taken = q i; at = r i; step = s i; unposted = u i; placed = is_prop→PathP (λ j. r j ≡ place (p j) (q j)) (λ j. ℕ_set (r j) (place (p j) (q j))) b.placed c.placed i }
