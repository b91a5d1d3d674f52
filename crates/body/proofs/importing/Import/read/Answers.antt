use Rattle.std.proofs.Common.{refl, ap, ◌∙◌, w64, SFits, rules}
use Rattle.std.proofs.lemmas.Int.{to_z-of_z}
use Rattle.body.specs.Imports.{after_step, entered, import_at}
use Rattle.body.specs.Imported.{same_import}
use Rattle.body.proofs.Lines.{goes_on}
use Rattle.body.proofs.importing.Import.read.Goals as goal

pub returns-in-Some : goal.returns-in-Some
returns-in-Some c =
    let b = c.args.self.now in
    let fits : SFits w64 c.args.amount = search rules in
    same_import _ (import_at b c.in-Some.step) refl refl refl refl refl
    ∙ ap (entered b) c.in-Some.ensures
    ∙ ap (λ x. entered b (after_step b.step x)) (to_z-of_z w64 c.args.amount fits)
    ∙ goes_on b b.step c.args.amount refl
