use Rattle.std.proofs.Common.{◌≡◌, ◌^◌, ◌<◌, length, get_or, take, arith, rules}
use Rattle.std.proofs.lemmas.Int.Digits.{digits_more, digits_value_more}
use Rattle.std.proofs.lemmas.List.{length-take-le}
use Rattle.std.proofs.lemmas.Str.Parse.{digit_at}
use Rattle.std.specs.Int.{IsInRange}
use Rattle.money.proofs.Numbers.{value_room, digit_value}
use Rattle.money.proofs.number.digits_value.Goals as goal
use Rattle.money.proofs.number.digits_value.Goals.{Else-not-is_ascii_digit}

pub returns-then-not-is_ascii_digit : goal.returns-then-not-is_ascii_digit
returns-then-not-is_ascii_digit c d =
    let digit = digit_at c.args.field.now c.loop-b.b-index d c.loop-b-test.true in
    search (rules, digit)

-- the digits read so far leave room for one more
room : (c : Else-not-is_ascii_digit) → c.loop-b.n < 10 ^ 14
room c =
    let read = take c.loop-b.b-index c.args.field.now in
    let long : length read ≡ c.loop-b.b-index = length-take-le _ _ (omega arith) in
    omega (arith, value_room read c.loop-b.invariant.0 (omega arith))

-- the byte is a digit
digit : (c : Else-not-is_ascii_digit) → IsInRange 48 57 (get_or c.args.field.now c.loop-b.b-index 0)
digit c = search rules

pub overflow_mul-n : goal.overflow_mul-n
overflow_mul-n c = let small = room (goal.at.overflow_mul-n c).Else-not-is_ascii_digit in search rules

pub overflow_add-n : goal.overflow_add-n
overflow_add-n c = let small = room (goal.at.overflow_add-n c).Else-not-is_ascii_digit in search rules

pub loop-b-preserved : goal.loop-b-preserved
loop-b-preserved c =
    let s = c.args.field.now in
    let i = c.loop-b.b-index in
    let byte = digit (goal.at.loop-b-preserved c).Else-not-is_ascii_digit in
    let is = digit_value (get_or s i 0) byte.0 byte.1 in
    let more = digits_value_more 10 s i c.loop-b-test.true in
    (digits_more 10 s i c.loop-b-test.true c.loop-b.invariant.0 (omega arith), omega (arith, more, is, c.from.ensures, c.loop-b.invariant.1))
