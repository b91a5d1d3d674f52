-- The serial run: committed transactions one at a time, each alone on the cells.
use Rattle.std.specs.Prelude.{◌≡◌, ℕ, zero, suc, cond, List, [], ◌∷◌, ℤ, pos, nat_le, slice_index_or, slice_set}
use Rattle.body.specs.declared.body.Body.{Ghosts}
use Rattle.body.specs.declared.request.Request.TheVariants.{Read, Write, End}

-- What a transaction was handed, in order, and the cells that it leaves.
pub record Outcome : Type 0 where
  pub handed : List ℤ
  pub cells : List ℤ

-- One amount more in front.
abbrev pub given : ℤ → Outcome → Outcome
given v o = record { handed = v ∷ o.handed; cells = o.cells }

-- A commit: its number, its body, and what the attempt that committed was handed.
pub record Commit (B : Type 0) : Type 0 where
  pub number : ℕ
  pub body : B
  pub handed : List ℤ

module _ {B : Type 0} (m : Ghosts B) where
  -- At most n requests of a body that runs alone: a read is told the cell's amount, and a write is done.
  abbrev pub go : ℕ → B → List ℤ → Outcome
  go zero b cs = record { handed = []; cells = cs }
  go (suc n) b cs =
      elim (m.asks b) [
        | Read c ↦ given (slice_index_or cs c (pos 0)) (go n (m.told b (slice_index_or cs c (pos 0))) cs)
        | Write c v ↦ go n (m.taken b) (slice_set cs c v)
        | End ↦ record { handed = []; cells = cs }
      ]

  -- A body restarted and asked until it ends.
  abbrev pub alone : B → List ℤ → Outcome
  alone b cs = go (m.left (m.begin b)) (m.begin b) cs

  -- The cells after commits in this order.
  abbrev pub leaves : List (Commit B) → List ℤ → List ℤ
  leaves [] cs = cs
  leaves (t ∷ ts) cs = leaves ts (alone t.body cs).cells

  -- Each commit was handed what it is handed here.
  abbrev pub Agrees : List (Commit B) → List ℤ → Type 0
  Agrees [] cs = Unit {0}
  Agrees (t ∷ ts) cs = ((alone t.body cs).handed ≡ t.handed) × Agrees ts (alone t.body cs).cells

-- A commit among others by rising number, behind those with its own number.
abbrev pub insert : {B : Type 0} → Commit B → List (Commit B) → List (Commit B)
insert t [] = t ∷ []
insert t (u ∷ us) = cond (nat_le u.number t.number) (u ∷ insert t us) (t ∷ u ∷ us)

-- Commits by rising number, equal numbers in the order in which they came, from a list with the newest first.
abbrev pub ordered : {B : Type 0} → List (Commit B) → List (Commit B)
ordered [] = []
ordered (t ∷ ts) = insert t (ordered ts)

-- Those with a number up to n.
abbrev pub upto : {B : Type 0} → ℕ → List (Commit B) → List (Commit B)
upto n [] = []
upto n (t ∷ ts) = cond (nat_le t.number n) (t ∷ upto n ts) (upto n ts)
