-- The first fault of a line whose fields are known. Assumes nothing.
use Rattle.std.proofs.Common.{◌≡◌, ℕ, List, nat_abs, sym, refl, ap, ◌∙◌, subst, inl, inr, ⊎_elim, arith}
use Rattle.money.specs.Amounts.{Malformed, Beyond, Amount, amount_text}
use Rattle.money.specs.Faults.{IsAmountFault}
use Rattle.money.specs.declared.amount.AmountFault.{AmountFault}
use Rattle.money.specs.declared.amount.AmountFault.TheVariants.{Form, Limit}
use Rattle.money.proofs.Texts.{amount_same}
use Rattle.imports.specs.declared.fault.LineFault.{LineFault}
use Rattle.imports.specs.declared.fault.LineFault.TheVariants as faults
use Rattle.imports.specs.Lines.{Fields, heading, post, transfer, parted, Whole, HasFields, IsPosting, BadCell, OneCell, AmountField, First, row_faults}
use Rattle.imports.proofs.Cuts.{same_fields}

-- the amount's field is the writing of an amount within the limit
abbrev pub SoundAmount : ℕ → List ℕ → Type 0
SoundAmount k field = (z : _) × Amount k z × (field ≡ amount_text k z)

not_amount : {P Q : List ℕ → Type 0} (f : Fields) → ((field : List ℕ) → P field → Q field → ⊥) → AmountField P f → AmountField Q f → ⊥
not_amount (heading c) h p q = p
not_amount (post c a) h p q = h a p q
not_amount (transfer c o a) h p q = h a p q

module _ (k : ℕ) (bytes : List ℕ) (f : Fields) (whole : Whole f) (is : bytes ≡ parted f) where
  has : (P : Fields → Type 0) → P f → HasFields bytes P
  has P p = (f, whole, is, p)

  -- a line has its fields in one way, so what does not hold of these holds of none
  hasnt : (P : Fields → Type 0) → (P f → ⊥) → HasFields bytes P → ⊥
  hasnt P n h = n (subst P (same_fields h.0 f h.1 whole (sym h.2 ∙ is)) h.3)

  module _ (posting : IsPosting f) where
    lettered : (HasFields bytes IsPosting → ⊥) → ⊥
    lettered n = n (has IsPosting posting)

    module _ (cells : BadCell f → ⊥) where
      pub twice_fault : OneCell f → First (row_faults k bytes) faults.Twice
      twice_fault one = inr (lettered, inr (hasnt BadCell cells, inl (has OneCell one, refl)))

      module _ (two : OneCell f → ⊥) where
        pub amount_fault : (fault : AmountFault) → AmountField (λ field. IsAmountFault k field fault) f → First (row_faults k bytes) (faults.Amount fault)
        amount_fault Form bad =
            inr (lettered, inr (hasnt BadCell cells, inr (hasnt OneCell two, inl (has (AmountField (Malformed k)) bad, refl))))
        amount_fault Limit bad =
            inr (
              lettered,
              inr (
                hasnt BadCell cells,
                inr (
                  hasnt OneCell two,
                  inr (
                    hasnt (AmountField (Malformed k)) (not_amount f (λ field b m. m b.0 b.1) bad),
                    inl (has (AmountField (Beyond k)) bad, refl),
                  ),
                ),
              ),
            )

        -- a line with nothing wrong has no first fault
        pub no_fault : AmountField (SoundAmount k) f → (fault : LineFault) → First (row_faults k bytes) fault → ⊥
        no_fault sound fault =
            ⊎_elim (λ h. lettered h.0) (λ h.
            ⊎_elim (λ h. hasnt BadCell cells h.0) (λ h.
            ⊎_elim (λ h. hasnt OneCell two h.0) (λ h.
            ⊎_elim (λ h. hasnt (AmountField (Malformed k)) (not_amount f (λ field s m. m s.0 (s.1.0, s.2)) sound) h.0) (λ h.
            ⊎_elim (λ h. hasnt (AmountField (Beyond k)) (not_amount f within sound) h.0) (λ h. h.1)
            h.1) h.1) h.1) h.1)
          where
            within : (field : List ℕ) → SoundAmount k field → Beyond k field → ⊥
            within field s b =
                let same = amount_same k s.0 b.0 s.1.0 b.1.0 (sym s.2 ∙ b.1.1) in
                omega (arith, s.1.1, b.2, ap nat_abs same)
