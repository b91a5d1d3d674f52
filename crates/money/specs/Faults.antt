-- What can be wrong with an amount's field, the number of each fault, and what reading a field must answer.
use Rattle.std.specs.Prelude.{◌≡◌, ℕ, List, ℤ, Result, MatchResult}
use Rattle.money.specs.declared.amount.AmountFault.{AmountFault}
use Rattle.money.specs.declared.amount.AmountFault.TheVariants.{Form, Limit}
use Rattle.money.specs.Amounts.{Amount, Malformed, Beyond, amount_text}

-- The number under which a fault is reported.
abbrev pub amount_fault_number : AmountFault → ℕ
amount_fault_number Form = 66
amount_fault_number Limit = 67

-- The field has this fault.
abbrev pub IsAmountFault : ℕ → List ℕ → AmountFault → Type 0
IsAmountFault k field Form = Malformed k field
IsAmountFault k field Limit = Beyond k field

-- The amount whose writing the field is, where it is within the limit; otherwise the field's fault.
abbrev pub ReadsAmount : ℕ → List ℕ → Result ℤ AmountFault → Type 0
ReadsAmount k field r = MatchResult r (λ z. Amount k z × (field ≡ amount_text k z)) (IsAmountFault k field)
