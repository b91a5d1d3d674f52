-- Runs of a book that is opened on some cells with two marks: who steps when, what each step answers, and the book after them.
use Rattle.std.specs.Prelude.{ℕ, List, [], ◌∷◌, replicate, ℤ, pos, Ok, Result}
use Rattle.journal.specs.declared.record.Record.TheVariants.{Change}
use Rattle.lane.specs.declared.answer.Answer.{Answer}
use Rattle.lane.specs.declared.answer.Answer.TheVariants as answers
use Rattle.lane.specs.declared.refusal.StepRefusal.{StepRefusal}
use Rattle.lane.specs.Calls.{Opened, seat_call, step_call, step_reply}
use Rattle.lane.specs.Logs.{no_entry}
use Rattle.lane.specs.Worlds.{World}
use Rattle.worked.specs.Planned.{Planned, planned}

-- What a step answers.
abbrev pub Reply : Type 0
Reply = Result Answer StepRefusal

abbrev pub gone_on : Reply
gone_on = Ok answers.GoneOn

abbrev pub broken_off : Reply
broken_off = Ok answers.BrokenOff

abbrev pub committed : ℕ → Reply
committed n = Ok (answers.Committed n)

abbrev pub too_long : Reply
too_long = Ok answers.TooLong

-- A book with number 0, one helper, two marks and forty records. Marks, logs and records hold what no book starts with.
abbrev pub opened : List ℤ → Opened
opened cells = record {
  name = 1;
  helpers = 1;
  number = 0;
  cells = cells;
  marks = replicate 2 9;
  reads = replicate 64 9;
  writes = replicate 32 no_entry;
  journal = replicate 40 (Change 9 9 (pos 9));
}

module _ {R : Type 0} (kind : ℕ) where
  -- A transaction with tag 7 is seated: at this seat, with this way.
  abbrev pub seated : ℕ → ℕ → Planned R → World (Planned R) → World (Planned R)
  seated k y b w = (seat_call (planned kind) w k y 7 b).world

  -- The seats step in this order: the answers, and the book after them.
  abbrev pub replies : List ℕ → World (Planned R) → List Reply
  replies [] w = []
  replies (k ∷ ks) w = step_reply (planned kind) w k ∷ replies ks (step_call (planned kind) w k).world

  abbrev pub after : List ℕ → World (Planned R) → World (Planned R)
  after [] w = w
  after (k ∷ ks) w = after ks (step_call (planned kind) w k).world
