-- What came to pass since a book was opened, as callers and bodies saw it.
use Rattle.std.specs.Prelude.{ℕ, ◌+◌, Bool, false, cond, List, [], ◌∷◌, ◌++◌, ℤ, Some, None, Option, ◌==◌}
use Rattle.body.specs.Serial.{Commit}
use Rattle.lane.specs.declared.answer.Answer.{Answer}
use Rattle.lane.specs.declared.answer.Answer.TheVariants.{GoneOn, Waiting, Paused, BrokenOff, Committed, TooLong}
use Rattle.lane.specs.declared.told.Told.{Told}
use Rattle.lane.specs.declared.told.Told.TheVariants.{Nothing, Restarted, Handed, Taken}

-- One call: a body was seated at a seat; a seat was stepped, with its answer and what its body was told; or anything
-- else, refusals too.
pub data Call (B : Type 0) : Type 0 where
  seated : ℕ → B → Call B
  stepped : ℕ → Answer → Told → Call B
  other : Call B

-- A call, and the counter word after it.
pub record Moment (B : Type 0) : Type 0 where
  pub call : Call B
  pub flag : Bool
  pub number : ℕ

-- The newest moment first.
abbrev pub History : Type 0 → Type 0
History B = List (Moment B)

module _ {B : Type 0} where
  -- The number and the flag after all that came to pass; a book is opened with the flag clear.
  abbrev pub number_after : ℕ → History B → ℕ
  number_after n [] = n
  number_after n (e ∷ h) = e.number

  abbrev pub flag_after : History B → Bool
  flag_after [] = false
  flag_after (e ∷ h) = e.flag

  -- The body seated last at seat k.
  abbrev pub body_of : ℕ → History B → Option B
  body_of k [] = None
  body_of k (e ∷ h) =
      elim e.call [
        | seated j b ↦ cond (j == k) (Some b) (body_of k h)
        | stepped j a t ↦ body_of k h
        | other ↦ body_of k h
      ]

  -- What seat k's attempt was told since its last restart, newest first.
  abbrev pub attempt : ℕ → History B → List Told
  attempt k [] = []
  attempt k (e ∷ h) =
      elim e.call [
        | seated j b ↦ attempt k h
        | stepped j a t ↦
            cond (j == k)
            (elim t [
              | Nothing ↦ attempt k h
              | Restarted s ↦ []
              | Handed c v ↦ Handed c v ∷ attempt k h
              | Taken c v ↦ Taken c v ∷ attempt k h
            ])
            (attempt k h)
        | other ↦ attempt k h
      ]

  -- The start of that attempt.
  abbrev pub start_of : ℕ → History B → ℕ
  start_of k [] = 0
  start_of k (e ∷ h) =
      elim e.call [
        | seated j b ↦ start_of k h
        | stepped j a t ↦
            cond (j == k)
            (elim t [
              | Nothing ↦ start_of k h
              | Restarted s ↦ s
              | Handed c v ↦ start_of k h
              | Taken c v ↦ start_of k h
            ])
            (start_of k h)
        | other ↦ start_of k h
      ]

-- The last write of an attempt to a cell, or what else stands there.
abbrev pub own_or : ℕ → ℤ → List Told → ℤ
own_or c v [] = v
own_or c v (t ∷ ts) =
    elim t [
      | Nothing ↦ own_or c v ts
      | Restarted s ↦ own_or c v ts
      | Handed d x ↦ own_or c v ts
      | Taken d x ↦ cond (d == c) x (own_or c v ts)
    ]

-- The amounts handed, in order.
abbrev pub amounts : List Told → List ℤ
amounts [] = []
amounts (t ∷ ts) =
    elim t [
      | Nothing ↦ amounts ts
      | Restarted s ↦ amounts ts
      | Handed d x ↦ amounts ts ++ (x ∷ [])
      | Taken d x ↦ amounts ts
    ]

module _ {B : Type 0} where
  abbrev pub with_body : Option B → ℕ → List ℤ → List (Commit B) → List (Commit B)
  with_body None n vs cs = cs
  with_body (Some b) n vs cs = record { number = n; body = b; handed = vs } ∷ cs

  -- The commits, newest first: each answer that says so, with its number, the body seated there, and the amounts that its
  -- attempt was handed.
  abbrev pub commits : History B → List (Commit B)
  commits [] = []
  commits (e ∷ h) =
      elim e.call [
        | seated j b ↦ commits h
        | stepped j a t ↦
            elim a [
              | GoneOn ↦ commits h
              | Waiting ↦ commits h
              | Paused ↦ commits h
              | BrokenOff ↦ commits h
              | Committed n ↦ with_body (body_of j h) n (amounts (attempt j (e ∷ h))) (commits h)
              | TooLong ↦ commits h
            ]
        | other ↦ commits h
      ]

  -- How many steps seat k took.
  abbrev pub steps_of : ℕ → History B → ℕ
  steps_of k [] = 0
  steps_of k (e ∷ h) =
      elim e.call [
        | seated j b ↦ steps_of k h
        | stepped j a t ↦ cond (j == k) (1 + steps_of k h) (steps_of k h)
        | other ↦ steps_of k h
      ]
