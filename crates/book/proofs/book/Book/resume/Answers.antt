use Rattle.std.proofs.Common.{◌≡◌, false, rules}
use Rattle.lane.specs.Calls.{resume_call}
use Rattle.lane.proofs.Keeping.{resume_keeps}
use Rattle.book.specs.Views.{world}
use Rattle.book.proofs.Calling.{pausing, sane_pausing}
use Rattle.book.proofs.book.Book.resume.Goals as goal

pub invariant_of-self : goal.invariant_of-self
invariant_of-self g c = (tt, tt, (sane_pausing false c.args.self.now.desk c.args.self.now.sane, (c.args.self.now.within, tt)))

pub returns-then-ticket-self-clause-law : goal.returns-then-ticket-self-clause-law
returns-then-ticket-self-clause-law g c l =
    let d = c.args.self.now.desk in
    let e : world d l ≡ (resume_call (world d l) c.args.ticket.book).world = search rules in
    resume_keeps g.B.Body g.met.B.Body.lawful (world d l) _ c.args.ticket.book e

pub returns-then-not-self-clause-law : goal.returns-then-not-self-clause-law
returns-then-not-self-clause-law g c l =
    let d = c.args.self.now.desk in
    let e : world d l ≡ (resume_call (world d l) c.args.ticket.book).world = search rules in
    resume_keeps g.B.Body g.met.B.Body.lawful (world d l) _ c.args.ticket.book e

pub returns-clause-law : goal.returns-clause-law
returns-clause-law g c l =
    let d = c.args.self.now.desk in
    let e : world (pausing false d) l ≡ (resume_call (world d l) c.args.ticket.book).world = search rules in
    resume_keeps g.B.Body g.met.B.Body.lawful (world d l) _ c.args.ticket.book e
