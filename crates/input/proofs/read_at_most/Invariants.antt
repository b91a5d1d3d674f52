use Rattle.std.proofs.Common.{◌≡◌, ℕ, ◌≤◌, List, length, take, vec_len}
use Rattle.std.specs.Io.KnownBytes.{Consumes}
use Rattle.input.proofs.read_at_most.Given as goal

-- Some bytes were read, of which as many are kept as are wanted, and each turn has read one or more.
abbrev pub invariant-loop : goal.invariant-loop
invariant-loop g l = (vec_len l.text ≤ l.most) × (length l.piece ≡ 4096)
    × ((bytes : List ℕ) × Consumes (g.R.Read.remaining l.fn.input) (g.R.Read.remaining l.input) bytes × (l.text.items ≡ take l.most bytes) × (l.counter ≤ length bytes))
