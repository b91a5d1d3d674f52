-- The laws of a body that asks only what keeps them, and counts down. Assumes nothing.
use Rattle.std.specs.Prelude.{◌≡◌, ℕ, ◌<◌, ◌≤◌, ◌&&◌, ℤ, nat_lt, refl}
use Rattle.std.proofs.Common.{ap, arith}
use Rattle.std.proofs.lemmas.Bool.{ltb-true, leb-true, and_parts, cond_both}
use Rattle.body.specs.declared.request.Request.{Request}
use Rattle.body.specs.declared.request.Request.TheVariants.{Read, Write, End}
use Rattle.body.specs.Meaning.{Lawful, Proper, Same, ReadTold, WriteTaken}
use Rattle.body.specs.Tests.{kept, on_read, on_write, unless_end}
use Rattle.money.specs.Amounts.{within_limit}

pub kept_proper : (reach : ℕ) (r : Request) → Proper reach (kept reach r)
kept_proper reach (Read c) = cond_both (nat_lt c reach) (Read c) End (Proper reach) (λ e. ltb-true c reach e) (λ e. tt)
kept_proper reach (Write c v) =
    cond_both (nat_lt c reach && within_limit v) (Write c v) End (Proper reach)
    (λ e. let p = and_parts (nat_lt c reach) (within_limit v) e in (ltb-true c reach p.0, leb-true _ _ p.1)) (λ e. tt)
kept_proper reach End = tt

unless_le : (r : Request) (n : ℕ) → unless_end r n ≤ n
unless_le (Read c) n = omega arith
unless_le (Write c v) n = omega arith
unless_le End n = omega arith

module _ {S : Type 0} (raw : S → Request) (answered : S → ℤ → S) (written : S → S) (begin : S → S) (weight reach len : S → ℕ) where
  abbrev asks : S → Request
  asks s = kept (reach s) (raw s)

  abbrev left : S → ℕ
  left s = unless_end (asks s) (weight s)

  pub record Counts : Type 0 where
    pub lower_read : (s : S) (a : ℤ) (c : ℕ) → kept (reach s) (raw s) ≡ Read c → weight (answered s a) < weight s
    pub lower_write : (s : S) (c : ℕ) (v : ℤ) → kept (reach s) (raw s) ≡ Write c v → weight (written s) < weight s
    pub few : (s : S) → weight (begin s) ≤ len s
    pub same_read : (s : S) (a : ℤ) → Same begin reach len s (answered s a)
    pub same_write : (s : S) → Same begin reach len s (written s)
    pub same_start : (s : S) → Same begin reach len s (begin s)

  module _ (h : Counts) where
    self : (s : S) → Same begin reach len s s
    self s = record { start = refl; reaches = refl; lasts = refl }

    reads : (s : S) (a : ℤ) (r : Request) → asks s ≡ r → ReadTold left s (on_read r (answered s a) s) r
    reads s a (Read c) e =
        omega (arith, unless_le (asks (answered s a)) (weight (answered s a)), h.lower_read s a c e, ap (λ r. unless_end r (weight s)) e)
    reads s a (Write c v) e = refl
    reads s a End e = refl

    writes : (s : S) (r : Request) → asks s ≡ r → WriteTaken left s (on_write r (written s) s) r
    writes s (Read c) e = refl
    writes s (Write c v) e =
        omega (arith, unless_le (asks (written s)) (weight (written s)), h.lower_write s c v e, ap (λ r. unless_end r (weight s)) e)
    writes s End e = refl

    same_told : (s : S) (a : ℤ) (r : Request) → Same begin reach len s (on_read r (answered s a) s)
    same_told s a (Read c) = h.same_read s a
    same_told s a (Write c v) = self s
    same_told s a End = self s

    same_taken : (s : S) (r : Request) → Same begin reach len s (on_write r (written s) s)
    same_taken s (Read c) = self s
    same_taken s (Write c v) = h.same_write s
    same_taken s End = self s

    pub lawful : Lawful (λ s. kept (reach s) (raw s)) (λ s a. on_read (kept (reach s) (raw s)) (answered s a) s) (λ s. on_write (kept (reach s) (raw s)) (written s) s) begin (λ s. unless_end (kept (reach s) (raw s)) (weight s)) reach len
    lawful = record {
      proper = λ s. kept_proper (reach s) (raw s);
      reads = λ s a. reads s a (asks s) refl;
      writes = λ s. writes s (asks s) refl;
      short = λ s. omega (arith, unless_le (asks (begin s)) (weight (begin s)), h.few s);
      same_told = λ s a. same_told s a (asks s);
      same_taken = λ s. same_taken s (asks s);
      same_begin = h.same_start;
    }
