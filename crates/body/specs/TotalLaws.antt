-- A total keeps the laws. Assumes nothing.
use Rattle.std.proofs.Common.{rules}
use Rattle.body.specs.Meaning.{Lawful}
use Rattle.body.specs.Totals.{total_asks, total_told, total_taken, total_begin, total_left, total_reach, total_len}

pub total_lawful : Lawful total_asks total_told total_taken total_begin total_left total_reach total_len
total_lawful = search rules
