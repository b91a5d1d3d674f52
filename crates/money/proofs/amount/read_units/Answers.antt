use Rattle.std.proofs.Common.{◌≡◌, ◌/◌, ◌^◌, ◌<◌, ◌≤◌, [], ◌∷◌, length, take, drop, decimal, Some, None, sym, ap, ◌∙◌, subst, arith, rules}
use Rattle.std.specs.Str.Parse.{AllDigits}
use Rattle.std.proofs.lemmas.Bool.Decides.{Decides-eqb}
use Rattle.std.proofs.lemmas.Slice.Eq.{strip_prefix_is}
use Rattle.std.proofs.lemmas.Nat.{mul-le}
use Rattle.money.specs.Amounts.{bound}
use Rattle.money.proofs.Units.{whole_there, part_there, digits_padded, part_small, units_whole, units_joined}
use Rattle.money.proofs.Signs.{ten_power}
use Rattle.money.proofs.amount.read_units.Goals as goal
use Rattle.money.proofs.amount.read_units.Goals.{In_ok-digits, After-pow}

pub returns-in_err-digits : goal.returns-in_err-digits
returns-in_err-digits c = rw c.from_residual-in_err-digits.ensures (λ n small e.
    let there = part_there c.args.places n (omega arith) c.in_ok-point.point c.args.field.now e (omega arith) in
    let none = strip_prefix_is Decides-eqb c.split_at.result.1.now (46 ∷ []) None c.in_err-digits.ensures.cases in
    none _ (c.split_at.ensures.back ∙ there))

-- the point stands behind the whole units, and the digits behind the point
point : (c : In_ok-digits) → drop c.in_ok-point.point c.args.field.now ≡ 46 ∷ c.in_ok-digits.digits.now
point c =
    sym c.split_at.ensures.back
    ∙ strip_prefix_is Decides-eqb c.split_at.result.1.now (46 ∷ []) (Some c.in_ok-digits.digits) c.in_ok-digits.ensures.cases

pub returns-in_err-whole : goal.returns-in_err-whole
returns-in_err-whole c = rw c.from_residual-in_err-whole.ensures (λ n small e.
    c.in_err-whole.ensures (n / 10 ^ c.args.places) small
    (c.split_at.ensures.front ∙ whole_there c.args.places n (omega arith) c.in_ok-point.point c.args.field.now e (omega arith)))

pub returns-in_err-part : goal.returns-in_err-part
returns-in_err-part c = rw c.from_residual-in_err-part.ensures (λ n small e.
    let there = part_there c.args.places n (omega arith) c.in_ok-point.point c.args.field.now e (omega arith) in
    c.in_err-part.ensures
    (subst (AllDigits 10) (sym (ap (drop 1) (sym (point (goal.at.returns-in_err-part c).In_ok-digits) ∙ there))) (digits_padded c.args.places n)))

-- what was read, as the parts of the field
module _ (c : After-pow) where
  behind : drop c.in_ok-point.point c.args.field.now ≡ 46 ∷ c.in_ok-digits.digits.now
  behind = point (goal.at.returns c).In_ok-digits

  front : take c.in_ok-point.point c.args.field.now ≡ decimal c.in_ok-whole.whole
  front = sym c.split_at.ensures.front ∙ c.in_ok-whole.ensures.1

  long : length c.in_ok-digits.digits.now ≡ c.args.places
  long = omega (arith, ap length behind, ap length c.split_at.ensures.back, c.split_at.ensures.back_len)

pub overflow_add-result : goal.overflow_add-result
overflow_add-result c =
    let there = c.in_ok-part.ensures in
    let told = c.in_ok-whole.ensures in
    let small = part_small c.args.places (omega arith) c.in_ok-point.point c.in_ok-whole.whole c.args.field.now _ (front c) (behind c) (long c) there.0 in
    let scale = ten_power c.args.places c.requires in
    let power : c.pow.result ≤ 100 = omega (arith, c.pow.ensures, scale) in
    let product = mul-le c.in_ok-whole.whole c.pow.result bound 100 (omega (arith, told.0)) power in
    let part : c.in_ok-part.part < 100 = omega (arith, small, scale, there.1) in
    search rules

pub returns : goal.returns
returns c =
    let k = c.args.places in
    let p = c.in_ok-point.point in
    let w = c.in_ok-whole.whole in
    let there = c.in_ok-part.ensures in
    let small = units_whole k (omega arith) p w c.args.field.now _ (front c) (behind c) (long c) there.0 in
    let joined = units_joined k (omega arith) p w c.args.field.now _ (front c) (behind c) (long c) there.0 in
    rw (c.pow.ensures, there.1) (rw small c.in_ok-whole.ensures.0, joined)
