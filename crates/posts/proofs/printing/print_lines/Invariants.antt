use Rattle.std.proofs.Common.{◌≡◌, map, flat_map, string_bytes}
use Rattle.journal.specs.Lines.{line_of}
use Rattle.posts.proofs.printing.print_lines.Given as goal

abbrev pub invariant-loop-record : goal.invariant-loop-record
invariant-loop-record l = string_bytes l.out ≡ flat_map line_of (map (λ r. r.now) l.yielded)
