use Rattle.std.proofs.Common.{sym, subst}
use Rattle.body.specs.MadeImports.{MadeImport}
use Rattle.body.proofs.Booked.{made_import}
use Rattle.body.proofs.importing.Import.new.Goals as goal

pub returns : goal.returns
returns c ps told = subst (MadeImport ps) (sym c.restart.ensures) (made_import c.args.checked ps told)
