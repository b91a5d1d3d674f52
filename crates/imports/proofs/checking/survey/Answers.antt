use Rattle.std.proofs.Common.{◌≡◌, ◌+◌, length, sym, subst, arith, rules}
use Rattle.std.proofs.lemmas.List.{take_rest}
use Rattle.std.proofs.lemmas.Result.{err_from_is_err_and, MatchResult-at_ok, MatchResult-at_err}
use Rattle.money.specs.Amounts.{places}
use Rattle.imports.specs.declared.fault.ImportFault.TheVariants.{Line}
use Rattle.imports.specs.Lines.{code_faults, row_faults}
use Rattle.imports.specs.Reading.{FirstRowFault}
use Rattle.imports.specs.Faults.{NamesLine, Refused}
use Rattle.imports.proofs.Admitted.{names_first, names_later, not_both}
use Rattle.imports.proofs.Sofar.{Sofar, at_line, one_more, total_few, posting_few}
use Rattle.imports.proofs.checking.survey.Goals as goal
use Rattle.imports.proofs.checking.survey.Goals.{In_ok-posting}

pub returns-in_err-code : goal.returns-in_err-code
returns-in_err-code c =
    let text = c.args.text.now in
    let e = c.in_err-code.field-0.0 in
    let told = MatchResult-at_err _ _ e c.in_err-code.was (at_line 1 c.read_header.result c.map_err.result (λ fault faulty h. search rules) c.map_err.ensures.cases) in
    let p = err_from_is_err_and c.from_residual.result c.from_residual.ensures.1 in
    let bad = MatchResult-at_err _ (FirstRowFault code_faults text) e.fault told.0 c.read_header.ensures in
    let refused : Refused text (Line e) = subst (λ n. NamesLine text n e.fault) (sym told.1) (names_first text e.fault (grind arith) (omega arith) bad) in
    rw (p.1, p.2) (refused, λ code ps s. not_both text code ps (Line e) s refused)

pub returns-in_err-posting : goal.returns-in_err-posting
returns-in_err-posting c =
    let text = c.args.text.now in
    let code = c.in_ok-code.code.letters in
    let inv = c.loop-rest.invariant in
    let rest = c.loop-rest.rest.now in
    let e = c.in_err-posting.field-0.0 in
    let told = MatchResult-at_err _ _ e c.in_err-posting.was (at_line (c.loop-rest.totals.count + 2) c.read_line.result c.map_err-in-loop-rest.result (λ fault faulty h. search rules) c.map_err-in-loop-rest.ensures.cases) in
    let p = err_from_is_err_and c.from_residual-in_err-posting.result c.from_residual-in_err-posting.ensures.1 in
    let bad = MatchResult-at_err _ (FirstRowFault (row_faults (places code)) rest) e.fault told.0 c.read_line.ensures in
    let named = names_later text code rest inv.ps inv.currency inv.ranges inv.sofar e.fault bad (grind arith) (omega arith) in
    let number : length inv.ps + 2 ≡ e.line = omega (arith, told.1, inv.totals.0) in
    let refused : Refused text (Line e) = subst (λ n. NamesLine text n e.fault) number named in
    rw (p.1, p.2) (refused, λ code' ps s. not_both text code' ps (Line e) s refused)

pub with-totals-requires-clause-length : goal.with-totals-requires-clause-length
with-totals-requires-clause-length c =
    let inv = c.loop-rest.invariant in
    omega (arith, inv.few, total_few inv.ps, posting_few c.in_ok-posting.posting, inv.totals.2, c.if-text-gt-MOST_BYTES.false)

-- one posting more
pub loop-rest-preserved : goal.loop-rest-preserved
loop-rest-preserved c =
    let rest = c.loop-rest.rest.now in
    let told = MatchResult-at_ok _ _ (c.in_ok-posting.posting, c.in_ok-posting.used) c.in_ok-posting.was (at_line (c.loop-rest.totals.count + 2) c.read_line.result c.map_err-in-loop-rest.result (λ fault faulty h. search rules) c.map_err-in-loop-rest.ensures.cases) in
    let begins = MatchResult-at_ok _ _ (c.in_ok-posting.posting, c.in_ok-posting.used) told c.read_line.ensures in
    subst (λ left. Sofar c.args.text.now c.in_ok-code.code.letters left c.with-totals.result) (sym (take_rest rest c.in_ok-posting.used))
    (one_more _ _ rest c.in_ok-posting.used _ _ c.in_ok-posting.posting c.loop-rest.invariant begins c.with-totals.ensures)
