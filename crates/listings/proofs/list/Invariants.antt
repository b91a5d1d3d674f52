use Rattle.std.proofs.Common.{List, string_bytes}
use Rattle.imports.specs.declared.posting.Posting.{Posting}
use Rattle.imports.specs.Checks.{Tells}
use Rattle.listings.proofs.Turns.{Sofar}
use Rattle.listings.proofs.list.Given as goal

abbrev pub invariant-loop-posting : goal.invariant-loop-posting
invariant-loop-posting l = (ps : List Posting) → Tells l.import ps → Sofar ps l.posting-iterator (string_bytes l.out)
