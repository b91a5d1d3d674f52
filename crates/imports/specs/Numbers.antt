-- The number under which each fault of an import is reported, and the line that it names.
use Rattle.std.specs.Prelude.{ℕ}
use Rattle.money.specs.Faults.{amount_fault_number}
use Rattle.imports.specs.declared.fault.ImportFault.{ImportFault}
use Rattle.imports.specs.declared.fault.ImportFault.TheVariants.{Size, Line}
use Rattle.imports.specs.declared.fault.LineFault.{LineFault}
use Rattle.imports.specs.declared.fault.LineFault.TheVariants.{End, Header, Letter, Cell, Twice, Amount}

abbrev pub line_fault_number : LineFault → ℕ
line_fault_number End = 61
line_fault_number Header = 62
line_fault_number Letter = 63
line_fault_number Cell = 64
line_fault_number Twice = 65
line_fault_number (Amount fault) = amount_fault_number fault

abbrev pub import_fault_number : ImportFault → ℕ
import_fault_number Size = 60
import_fault_number (Line faulty) = line_fault_number faulty.fault

-- A fault of the whole text has line 0.
abbrev pub import_fault_line : ImportFault → ℕ
import_fault_line Size = 0
import_fault_line (Line faulty) = faulty.line
