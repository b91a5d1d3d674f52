use Rattle.std.proofs.Common.{flat_map, ◌∙◌, ap, rules}
use Rattle.std.proofs.lemmas.Iterator.{YieldsList-from_slice, YieldsList-from_take}
use Rattle.std.proofs.lemmas.Iterator.Consumers.{YieldsList-end}
use Rattle.journal.specs.Lines.{line_of}
use Rattle.posts.proofs.printing.print_lines.Goals as goal

pub returns : goal.returns
returns c =
    c.loop-record.invariant
    ∙ ap (flat_map line_of) (YieldsList-end (YieldsList-from_take c.args.used (YieldsList-from_slice c.args.journal.now (search rules)) (search rules)) c.loop-record.yielded _ c.loop-record.yielded_by _ _ c.in-None.is c.next.ensures.steps).0
