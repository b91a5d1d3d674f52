-- When the check refuses a text, and with what.
use Rattle.std.specs.Prelude.{◌≡◌, ℕ, ◌<◌, ◌≤◌, ◌⊎◌, List, length}
use Rattle.imports.specs.declared.fault.ImportFault.{ImportFault}
use Rattle.imports.specs.declared.fault.ImportFault.TheVariants.{Size, Line}
use Rattle.imports.specs.declared.fault.LineFault.{LineFault}
use Rattle.imports.specs.Texts.{most_bytes}
use Rattle.imports.specs.Lines.{Faulty}

-- Some faulty line with its first fault: line 1 where that is faulty, and otherwise it is open which.
pub record NamesLine (text : List ℕ) (n : ℕ) (fault : LineFault) : Type 0 where
  pub some : 0 < length text
  pub fits : length text ≤ most_bytes
  pub faulty : Faulty text n fault
  pub header_first : (other : LineFault) → Faulty text 1 other → n ≡ 1

-- A text is refused for its size, or for a faulty line.
abbrev pub Refused : List ℕ → ImportFault → Type 0
Refused text Size = (length text ≡ 0) ⊎ (most_bytes < length text)
Refused text (Line faulty) = NamesLine text faulty.line faulty.fault
