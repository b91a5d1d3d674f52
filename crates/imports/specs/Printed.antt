-- How a posting and a fault are printed. P is 80, T is 84, X is 88, the tab is 9 and the end of a line is 10.
use Rattle.std.specs.Prelude.{ℕ, List, [], ◌∷◌, ◌++◌, decimal}
use Rattle.std.specs.Fmt.{signed_decimal}
use Rattle.imports.specs.declared.fault.ImportFault.{ImportFault}
use Rattle.imports.specs.declared.posting.Posting.{Posting}
use Rattle.imports.specs.declared.posting.Posting.TheVariants.{Post, Transfer}
use Rattle.imports.specs.Numbers.{import_fault_line, import_fault_number}

-- The letter, the cells and the amount in the smallest unit, parted by tabs.
abbrev pub posting_text : Posting → List ℕ
posting_text (Post cell amount) = 80 ∷ 9 ∷ (decimal cell ++ 9 ∷ signed_decimal amount)
posting_text (Transfer cell other amount) = 84 ∷ 9 ∷ (decimal cell ++ 9 ∷ (decimal other ++ 9 ∷ signed_decimal amount))

-- The faulty line and the fault's number, parted by a tab.
abbrev pub fault_text : ImportFault → List ℕ
fault_text fault = decimal (import_fault_line fault) ++ 9 ∷ decimal (import_fault_number fault)

-- The line that programs print for a refused text: the faulty line and the fault's number.
abbrev pub refusal_line : ImportFault → List ℕ
refusal_line fault = 88 ∷ 9 ∷ (fault_text fault ++ 10 ∷ [])
