use Rattle.std.proofs.Common.{◌≡◌, [], ◌∷◌, Some, arith, w64, rules}
use Rattle.std.proofs.lemmas.Bool.Decides.{Decides-eqb}
use Rattle.std.proofs.lemmas.Slice.Eq.{strip_prefix_is}
use Rattle.std.proofs.lemmas.Int.{to_z_pos, ints}
use Rattle.money.proofs.Signs.{units_fit, negated, minus_none, minus_zero, minus_some}
use Rattle.money.proofs.amount.read_signed.Goals as goal
use Rattle.money.proofs.amount.read_signed.Goals.{In-Some}

pub overflow_cast-result : goal.overflow_cast-result
overflow_cast-result c =
    let fit = units_fit _ _ c.requires c.in_ok-read_units.ensures.0 in search rules

pub returns-in_default : goal.returns-in_default
returns-in_default c =
    let told = c.in_ok-read_units.ensures in
    rw (to_z_pos w64 c.in_ok-read_units.field-0 (units_fit _ _ c.requires told.0)) told

-- the field is a minus and what stands behind it
minus : (c : In-Some) → c.args.field.now ≡ 45 ∷ c.in-Some.unsigned.now
minus c = strip_prefix_is Decides-eqb c.args.field.now (45 ∷ []) (Some c.in-Some.unsigned) c.in-Some.ensures.cases

pub returns-in_err-units : goal.returns-in_err-units
returns-in_err-units c =
    rw c.from_residual-in_err-units.ensures
    (minus_none _ _ (minus (goal.at.returns-in_err-units c).In-Some) c.in_err-units.ensures)

pub overflow_cast-result-in_default-2 : goal.overflow_cast-result-in_default-2
overflow_cast-result-in_default-2 c =
    let fit = units_fit _ _ c.requires c.in_ok-units.ensures.0 in search rules

pub overflow_sub-result : goal.overflow_sub-result
overflow_sub-result c =
    let fit = units_fit _ _ c.requires c.in_ok-units.ensures.0 in
    rw (to_z_pos w64 c.in_ok-units.units fit) (search (rules, ints))

pub returns-in-0 : goal.returns-in-0
returns-in-0 c =
    let told = rw c.in-0.is at c.in_ok-units.ensures in
    minus_zero _ _ (minus (goal.at.returns-in-0 c).In-Some) told.0 told.1

pub returns-in_default-2 : goal.returns-in_default-2
returns-in_default-2 c =
    let told = c.in_ok-units.ensures in
    let fit = units_fit _ _ c.requires told.0 in
    rw (negated c.in_ok-units.units (omega arith) fit)
    (minus_some _ _ (minus (goal.at.returns-in_default-2 c).In-Some) c.in_ok-units.units (omega arith) told.0 told.1)
