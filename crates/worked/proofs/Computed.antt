-- The table of worked examples: what the definitions compute to is what each example says.
use Rattle.std.proofs.Common.{ℕ, pos, negsuc, Ok, Err, codes, refl, lit<, lit≤}
use Rattle.std.specs.Fmt.{digits}
use Rattle.body.specs.Plans.{Plan, read, write, end, Follows}
use Rattle.money.specs.declared.amount.AmountFault.TheVariants.{Form, Limit}
use Rattle.money.specs.Faults.{ReadsAmount}
use Rattle.money.proofs.Signs.{minus_zero}
use Rattle.worked.specs.Planned.{planned, ends_as, FollowsItself}
use Rattle.worked.specs.Worked.{Worked}
use Rattle.worked.proofs.Reading.{one_answer}

below_zero : ReadsAmount 2 (codes "-12.50") (Ok (negsuc 1249))
unfolding digits
below_zero = ((lit< tt, lit≤ tt), refl)

minus_before_zero : ReadsAmount 2 (codes "-0.00") (Err Form)
unfolding digits
minus_before_zero = minus_zero 2 (codes "-0.00") refl (lit< tt) refl

the_limit : ReadsAmount 2 (codes "10000000000000.00") (Ok (pos 1000000000000000))
unfolding digits
the_limit = ((lit< tt, lit≤ tt), refl)

beyond_the_limit : ReadsAmount 2 (codes "10000000000000.01") (Err Limit)
unfolding digits
beyond_the_limit = (pos 1000000000000001, (lit< tt, refl), lit< tt)

pub worked : Worked
unfolding digits
worked = record {
  master_commits_at_its_seventh_step = (refl, refl, refl, refl, refl);
  loaded_cell_is_put = refl;
  cell_with_the_same_mark_is_put = refl;
  mark_has_no_flag = (refl, refl, refl);
  helper_commits_at_its_eighth_step = (refl, refl, refl);
  sixty_fifth_entry_is_too_long = (refl, refl, refl);
  minus_is_read_but_not_before_zero = (
    (below_zero, λ s q. one_answer 2 (codes "-12.50") _ s below_zero q),
    (minus_before_zero, λ s q. one_answer 2 (codes "-0.00") _ s minus_before_zero q),
    refl,
  );
  limit_is_taken_and_no_more = (
    (the_limit, λ s q. one_answer 2 (codes "10000000000000.00") _ s the_limit q),
    (beyond_the_limit, λ s q. one_answer 2 (codes "10000000000000.01") _ s beyond_the_limit q),
    refl,
  );
  line_beyond_the_limit_is_unposted = (refl, refl, refl, refl, refl);
}

-- A plan, part of the way through.
follows_from : {R : Type 0} (kind n l : ℕ) (none : R) (s p : Plan R) → Follows (planned kind) (ends_as none) p (record { start = s; now = p; names = n; lasts = l })
follows_from kind n l none s (read c next) = (refl, λ a. follows_from kind n l none s (next a))
follows_from kind n l none s (write c v next) = (refl, follows_from kind n l none s next)
follows_from kind n l none s (end r) = (refl, refl)

pub follows_itself : (R : Type 0) → FollowsItself R
follows_itself R kind n l none p = follows_from kind n l none p p
