-- Tests that code and definitions share.
use Rattle.std.specs.Prelude.{ℕ, cond, ◌&&◌, nat_lt}
use Rattle.money.specs.Amounts.{within_limit}
use Rattle.body.specs.declared.request.Request.{Request}
use Rattle.body.specs.declared.request.Request.TheVariants.{Read, Write, End}

-- A request that keeps the laws, and an end in the place of any other, so that the laws hold of every value of a type and
-- not only of those that its maker gives.
abbrev pub kept : ℕ → Request → Request
kept reach (Read c) = cond (nat_lt c reach) (Read c) End
kept reach (Write c v) = cond (nat_lt c reach && within_limit v) (Write c v) End
kept reach End = End

-- The first where the request is a read, and otherwise the second.
abbrev pub on_read : {S : Type 0} → Request → S → S → S
on_read (Read c) x y = x
on_read (Write c v) x y = y
on_read End x y = y

-- The first where the request is a write, and otherwise the second.
abbrev pub on_write : {S : Type 0} → Request → S → S → S
on_write (Read c) x y = y
on_write (Write c v) x y = x
on_write End x y = y

-- The number, or 0 at an end.
abbrev pub unless_end : Request → ℕ → ℕ
unless_end (Read c) n = n
unless_end (Write c v) n = n
unless_end End n = 0
