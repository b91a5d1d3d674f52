-- Reading a field of an amount has just one answer.
use Rattle.std.proofs.Common.{◌≡◌, ℕ, List, ℤ, nat_abs, Ok, Err, Result, sym, refl, ap, ◌∙◌, arith}
use Rattle.money.specs.declared.amount.AmountFault.{AmountFault}
use Rattle.money.specs.declared.amount.AmountFault.TheVariants.{Form, Limit}
use Rattle.money.specs.Amounts.{Amount, Beyond, Writes, amount_text}
use Rattle.money.specs.Faults.{ReadsAmount}
use Rattle.money.proofs.Texts.{amount_same}

module _ (k : ℕ) (field : List ℕ) where
  same : (y z : ℤ) → Writes k field y → Writes k field z → y ≡ z
  same y z v w = amount_same k y z v.0 w.0 (sym v.1 ∙ w.1)

  -- An amount within the limit is not beyond it.
  not_both : (z : ℤ) → Amount k z → field ≡ amount_text k z → Beyond k field → ⊥
  not_both z a e b = omega (arith, a.1, b.2, ap nat_abs (same z b.0 (a.0, e) b.1))

  pub one_answer : (r s : Result ℤ AmountFault) → ReadsAmount k field r → ReadsAmount k field s → s ≡ r
  one_answer (Ok y) (Ok z) p q = ap Ok (same z y (q.0.0, q.1) (p.0.0, p.1))
  one_answer (Ok y) (Err Form) p q = absurd (q y (p.0.0, p.1))
  one_answer (Ok y) (Err Limit) p q = absurd (not_both y p.0 p.1 q)
  one_answer (Err Form) (Ok z) p q = absurd (p z (q.0.0, q.1))
  one_answer (Err Form) (Err Form) p q = refl
  one_answer (Err Form) (Err Limit) p q = absurd (p q.0 q.1)
  one_answer (Err Limit) (Ok z) p q = absurd (not_both z q.0 q.1 p)
  one_answer (Err Limit) (Err Form) p q = absurd (q p.0 p.1)
  one_answer (Err Limit) (Err Limit) p q = refl
