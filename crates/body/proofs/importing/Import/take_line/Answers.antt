use Rattle.std.proofs.Common.{◌∙◌, refl, rules}
use Rattle.body.proofs.Lines.{line_read, place_behind, took_some, took_none, taken_fits}
use Rattle.body.proofs.importing.Import.take_line.Goals as goal

pub overflow_add-self : goal.overflow_add-self
overflow_add-self c =
    let from = c.postings_from-postings.ensures in
    let few = taken_fits c.args.self.now c.in-Some.posting c.next.new.self.at (line_read c.args.self.now _ c.next.new.self _ from.text from.code from.at c.in-Some.ensures.steps) in
    search rules

pub invariant_of-self : goal.invariant_of-self
invariant_of-self c =
    let from = c.postings_from-postings.ensures in
    record { placed = c.place-self.ensures ∙ place_behind c.args.self.now c.in-Some.posting c.next.new.self.at (line_read c.args.self.now _ c.next.new.self _ from.text from.code from.at c.in-Some.ensures.steps) }

pub returns-in-Some : goal.returns-in-Some
returns-in-Some c =
    let from = c.postings_from-postings.ensures in
    took_some _ c.args.self.now c.in-Some.posting c.next.new.self.at (line_read c.args.self.now _ c.next.new.self _ from.text from.code from.at c.in-Some.ensures.steps) refl refl c.place-self.ensures refl refl

pub returns-in-None : goal.returns-in-None
returns-in-None c =
    let from = c.postings_from-postings.ensures in
    took_none _ c.args.self.now c.next.new.self.at (line_read c.args.self.now _ c.next.new.self _ from.text from.code from.at c.in-None.ensures.steps) refl refl refl refl refl
