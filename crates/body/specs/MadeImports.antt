-- What the maker of an import promises.
use Rattle.std.specs.Prelude.{ℕ, List}
use Rattle.imports.specs.declared.posting.Posting.{Posting}
use Rattle.imports.specs.Texts.{reach, total_length}
use Rattle.body.specs.declared.importing.Import.{Import}
use Rattle.body.specs.Imports.{import_members, import_plan}
use Rattle.body.specs.Makers.{Made}
use Rattle.body.specs.Outcomes.{booked}

abbrev pub unposted : Import → ℕ
unposted b = b.unposted

-- The import follows the plan of its postings and books them, with the number of the lines left unposted as its result.
abbrev pub MadeImport : List Posting → Import → Type 0
MadeImport ps b = Made import_members unposted (import_plan ps 0) (booked ps) (reach ps) (total_length ps) b
