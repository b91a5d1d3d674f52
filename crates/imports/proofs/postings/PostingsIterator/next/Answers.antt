use Rattle.std.proofs.Common.{refl, subst, sym, ◌∙◌}
use Rattle.std.proofs.lemmas.List.{take_rest}
use Rattle.money.specs.Amounts.{places}
use Rattle.money.proofs.Codes.{places_small}
use Rattle.imports.specs.Lines.{row_faults}
use Rattle.imports.specs.Reading.{FirstRowFault}
use Rattle.imports.proofs.Taking.{none_at_fault, at_fault}
use Rattle.imports.proofs.postings.PostingsIterator.next.Goals as goal

pub returns-in_err-posting-clause-steps : goal.returns-in_err-posting-clause-steps
returns-in_err-posting-clause-steps c =
    let s = c.args.self.now in
    let k = places s.code.letters in
    let bad = at_fault c.read_line.result _ _ (sym c.ok.ensures.value ∙ c.in_err-posting.was) c.read_line.ensures in
    let here = subst (λ text. FirstRowFault (row_faults k) text bad.0) (take_rest s.text.now s.at) bad.1 in
    rw c.from_residual.ensures (record {
      same_text = refl;
      same_code = refl;
      moves = (none_at_fault k s.text.now s.at (places_small s.code.letters) bad.0 here, refl);
    })
