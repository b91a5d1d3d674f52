use Rattle.std.proofs.Common.{◌≡◌, take}
use Rattle.std.specs.Str.Parse.{AllDigits, digits_value}
use Rattle.money.proofs.number.digits_value.Given as goal

-- what is read so far are digits, and n is their value
abbrev pub invariant-loop-b : goal.invariant-loop-b
invariant-loop-b l = AllDigits 10 (take l.b-index l.field) × (l.n ≡ digits_value 10 (take l.b-index l.field))
