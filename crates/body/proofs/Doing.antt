-- What the plans do when they are carried out alone. Assumes nothing.
use Rattle.std.proofs.Common.{◌≡◌, ℕ, zero, suc, ◌+◌, ◌-◌, ◌<◌, ◌≤◌, Bool, true, false, cond, ◌&&◌, List, [], ◌∷◌, length, get_or, take, drop, set, ℤ, pos, ◌+ℤ◌, ◌-ℤ◌, sym, refl, ap, ◌∙◌, add-one, arith}
use Rattle.std.proofs.lemmas.List.{drop_more}
use Rattle.std.proofs.lemmas.Int.{ints}
use Rattle.imports.specs.declared.posting.Posting.{Posting}
use Rattle.imports.specs.declared.posting.Posting.TheVariants.{Post, Transfer}
use Rattle.body.specs.declared.steps.ScriptStep.{ScriptStep}
use Rattle.body.specs.declared.steps.ScriptStep.TheVariants as steps
use Rattle.body.specs.Imports.{post_good, transfer_good, import_plan}
use Rattle.body.specs.Outcomes.{booked, handed_of, all_within_limit, sum_of, range, totalled, scripted}
use Rattle.body.specs.Plans.{write, end, carried_out}
use Rattle.body.specs.Scripts.{script_plan}
use Rattle.body.specs.Serial.{Outcome, given}
use Rattle.money.specs.Amounts.{within_limit}
use Rattle.body.specs.Totals.{summed, total_plan}

booked_outcome : (ps : List Posting) (n : ℕ) (cells : List ℤ) → (carried_out (import_plan ps n) cells).outcome ≡ (booked ps cells).outcome
booked_outcome [] n cells = refl
booked_outcome (Post c a ∷ ps) n cells = at (post_good a (get_or cells c (pos 0))) (booked_outcome ps n (set cells c (get_or cells c (pos 0) +ℤ a))) (booked_outcome ps (suc n) cells)
  where
    at : (t : Bool) → (carried_out (import_plan ps n) (set cells c (get_or cells c (pos 0) +ℤ a))).outcome ≡ (booked ps (set cells c (get_or cells c (pos 0) +ℤ a))).outcome → (carried_out (import_plan ps (suc n)) cells).outcome ≡ (booked ps cells).outcome
        → given (get_or cells c (pos 0)) (carried_out (cond t (write c (get_or cells c (pos 0) +ℤ a) (import_plan ps n)) (import_plan ps (suc n))) cells).outcome ≡ given (get_or cells c (pos 0)) (booked ps (cond t (set cells c (get_or cells c (pos 0) +ℤ a)) cells)).outcome
    at true e f = ap (given (get_or cells c (pos 0))) e
    at false e f = ap (given (get_or cells c (pos 0))) f
booked_outcome (Transfer p q a ∷ ps) n cells =
    at (transfer_good a (get_or cells p (pos 0)) (get_or cells q (pos 0))) (booked_outcome ps n (set (set cells p (get_or cells p (pos 0) -ℤ a)) q (get_or cells q (pos 0) +ℤ a))) (booked_outcome ps (suc n) cells)
  where
    at : (t : Bool) → (carried_out (import_plan ps n) (set (set cells p (get_or cells p (pos 0) -ℤ a)) q (get_or cells q (pos 0) +ℤ a))).outcome ≡ (booked ps (set (set cells p (get_or cells p (pos 0) -ℤ a)) q (get_or cells q (pos 0) +ℤ a))).outcome → (carried_out (import_plan ps (suc n)) cells).outcome ≡ (booked ps cells).outcome
        → given (get_or cells p (pos 0)) (given (get_or cells q (pos 0)) (carried_out (cond t (write p (get_or cells p (pos 0) -ℤ a) (write q (get_or cells q (pos 0) +ℤ a) (import_plan ps n))) (import_plan ps (suc n))) cells).outcome) ≡ given (get_or cells p (pos 0)) (given (get_or cells q (pos 0)) (booked ps (cond t (set (set cells p (get_or cells p (pos 0) -ℤ a)) q (get_or cells q (pos 0) +ℤ a)) cells)).outcome)
    at true e f = ap (λ o. given (get_or cells p (pos 0)) (given (get_or cells q (pos 0)) o)) e
    at false e f = ap (λ o. given (get_or cells p (pos 0)) (given (get_or cells q (pos 0)) o)) f

booked_result : (ps : List Posting) (n : ℕ) (cells : List ℤ) → (carried_out (import_plan ps n) cells).result ≡ n + (booked ps cells).result
booked_result [] n cells = omega arith
booked_result (Post c a ∷ ps) n cells = at (post_good a (get_or cells c (pos 0))) (booked_result ps n (set cells c (get_or cells c (pos 0) +ℤ a))) (booked_result ps (suc n) cells)
  where
    at : (t : Bool) → (carried_out (import_plan ps n) (set cells c (get_or cells c (pos 0) +ℤ a))).result ≡ n + (booked ps (set cells c (get_or cells c (pos 0) +ℤ a))).result → (carried_out (import_plan ps (suc n)) cells).result ≡ suc n + (booked ps cells).result
        → (carried_out (cond t (write c (get_or cells c (pos 0) +ℤ a) (import_plan ps n)) (import_plan ps (suc n))) cells).result ≡ n + (cond t 0 1 + (booked ps (cond t (set cells c (get_or cells c (pos 0) +ℤ a)) cells)).result)
    at true e f = omega (arith, e)
    at false e f = omega (arith, f)
booked_result (Transfer p q a ∷ ps) n cells =
    at (transfer_good a (get_or cells p (pos 0)) (get_or cells q (pos 0))) (booked_result ps n (set (set cells p (get_or cells p (pos 0) -ℤ a)) q (get_or cells q (pos 0) +ℤ a))) (booked_result ps (suc n) cells)
  where
    at : (t : Bool) → (carried_out (import_plan ps n) (set (set cells p (get_or cells p (pos 0) -ℤ a)) q (get_or cells q (pos 0) +ℤ a))).result ≡ n + (booked ps (set (set cells p (get_or cells p (pos 0) -ℤ a)) q (get_or cells q (pos 0) +ℤ a))).result → (carried_out (import_plan ps (suc n)) cells).result ≡ suc n + (booked ps cells).result
        → (carried_out (cond t (write p (get_or cells p (pos 0) -ℤ a) (write q (get_or cells q (pos 0) +ℤ a) (import_plan ps n))) (import_plan ps (suc n))) cells).result ≡ n + (cond t 0 1 + (booked ps (cond t (set (set cells p (get_or cells p (pos 0) -ℤ a)) q (get_or cells q (pos 0) +ℤ a)) cells)).result)
    at true e f = omega (arith, e)
    at false e f = omega (arith, f)

pub does_import : (ps : List Posting) (cells : List ℤ) → ((carried_out (import_plan ps 0) cells).outcome ≡ (booked ps cells).outcome) × ((carried_out (import_plan ps 0) cells).result ≡ (booked ps cells).result)
does_import ps cells = (booked_outcome ps 0 cells, booked_result ps 0 cells ∙ omega arith)

pub does_script : (ss : List ScriptStep) (carried : ℤ) (cells : List ℤ) → (carried_out (script_plan ss carried) cells).outcome ≡ (scripted ss carried cells).outcome
does_script [] carried cells = refl
does_script (steps.Read c ∷ ss) carried cells = ap (given (get_or cells c (pos 0))) (does_script ss (get_or cells c (pos 0)) cells)
does_script (steps.Put c v ∷ ss) carried cells = does_script ss carried (set cells c v)
does_script (steps.Carry c ∷ ss) carried cells = at (within_limit carried) (does_script ss carried (set cells c carried))
  where
    at : (t : Bool) → (carried_out (script_plan ss carried) (set cells c carried)).outcome ≡ (scripted ss carried (set cells c carried)).outcome
        → (carried_out (cond t (write c carried (script_plan ss carried)) (end tt)) cells).outcome ≡ (cond t (scripted ss carried (set cells c carried)) (record { outcome = record { handed = []; cells = cells }; result = tt })).outcome
    at true e = e
    at false e = refl

-- a total over n cells from this one on, after a sum
abbrev from : ℤ → ℕ → List ℤ → List ℤ → Outcome
from sum target amounts cells = record {
  handed = handed_of amounts;
  cells = cond (all_within_limit amounts && within_limit (sum +ℤ sum_of amounts)) (set cells target (sum +ℤ sum_of amounts)) cells;
}

does_sum : (n cell target : ℕ) (sum : ℤ) (cells : List ℤ) → cell + n ≤ length cells → (carried_out (summed n cell target sum) cells).outcome ≡ from sum target (take n (drop cell cells)) cells
does_sum zero cell target sum cells room = last (within_limit sum) refl
  where
    none : sum +ℤ pos 0 ≡ sum
    none = omega (arith, ints)

    last : (t : Bool) → within_limit sum ≡ t → (carried_out (cond (within_limit sum) (write target sum (end (tt {0}))) (end (tt {0}))) cells).outcome ≡ record { handed = []; cells = cond (within_limit (sum +ℤ pos 0)) (set cells target (sum +ℤ pos 0)) cells }
    last true e = rw (none, e) refl
    last false e = rw (none, e) refl
does_sum (suc n) cell target sum cells room =
    let x = get_or cells cell (pos 0) in
    let front : drop cell cells ≡ x ∷ drop (suc cell) cells = drop_more cells cell (pos 0) (omega arith) ∙ ap (λ m. x ∷ drop m cells) (add-one cell) in
    at (within_limit x) refl (does_sum n (suc cell) target (sum +ℤ x) cells (omega arith)) ∙ ap (λ l. from sum target (take (suc n) l) cells) (sym front)
  where
    at : (t : Bool) → within_limit (get_or cells cell (pos 0)) ≡ t → (carried_out (summed n (suc cell) target (sum +ℤ get_or cells cell (pos 0))) cells).outcome ≡ from (sum +ℤ get_or cells cell (pos 0)) target (take n (drop (suc cell) cells)) cells
        → (carried_out (summed (suc n) cell target sum) cells).outcome ≡ from sum target (get_or cells cell (pos 0) ∷ take n (drop (suc cell) cells)) cells
    at true e rest =
        let x = get_or cells cell (pos 0) in
        let others = take n (drop (suc cell) cells) in
        let regroup : (sum +ℤ x) +ℤ sum_of others ≡ sum +ℤ (x +ℤ sum_of others) = omega (arith, ints) in
        rw e (ap (given x) rest ∙ ap (λ s. record { handed = x ∷ handed_of others; cells = cond (all_within_limit others && within_limit s) (set cells target s) cells }) regroup)
    at false e rest = rw e refl

pub does_total : (first last target : ℕ) (cells : List ℤ) → first ≤ last → last < length cells → (carried_out (total_plan first last target) cells).outcome ≡ (totalled first last target cells).outcome
does_total first last target cells order room =
    let amounts = range first last cells in
    let none : pos 0 +ℤ sum_of amounts ≡ sum_of amounts = omega (arith, ints) in
    does_sum (suc (last - first)) first target (pos 0) cells (omega arith)
    ∙ ap (λ s. record { handed = handed_of amounts; cells = cond (all_within_limit amounts && within_limit s) (set cells target s) cells }) none
