-- What a body does, whatever amounts it is told: the tree of its requests.
use Rattle.std.specs.Prelude.{◌≡◌, ℕ, zero, suc, List, [], ℤ, pos, slice_index_or, slice_set}
use Rattle.body.specs.declared.body.Body.{Ghosts}
use Rattle.body.specs.declared.request.Request.TheVariants.{Read, Write, End}
use Rattle.body.specs.Serial.{Outcome, given, alone}

-- Read a cell and go on as the amount says; write an amount to a cell and go on; or end with a result.
pub data Plan (R : Type 0) : Type 0 where
  read : ℕ → (ℤ → Plan R) → Plan R
  write : ℕ → ℤ → Plan R → Plan R
  end : R → Plan R

-- What a transaction leaves that is carried out alone, and its result.
pub record Done (R : Type 0) : Type 0 where
  pub outcome : Outcome
  pub result : R

module _ {B R : Type 0} (m : Ghosts B) (result : B → R) where
  -- The body asks what the plan says, and goes on as it says, whatever it is told; at the end it has the plan's result.
  abbrev pub Follows : Plan R → B → Type 0
  Follows (read c next) b = (m.asks b ≡ Read c) × ((a : ℤ) → Follows (next a) (m.told b a))
  Follows (write c v next) b = (m.asks b ≡ Write c v) × Follows next (m.taken b)
  Follows (end r) b = (m.asks b ≡ End) × (result b ≡ r)

  -- The body that has run alone, after at most n requests.
  abbrev pub run_out : ℕ → B → List ℤ → B
  run_out zero b cs = b
  run_out (suc n) b cs =
      elim (m.asks b) [
        | Read c ↦ run_out n (m.told b (slice_index_or cs c (pos 0))) cs
        | Write c v ↦ run_out n (m.taken b) (slice_set cs c v)
        | End ↦ b
      ]

  -- Restarted and run alone on any cells, the body is handed and leaves just this, and has this result at its end.
  pub record RunsAlone (b : B) (does : List ℤ → Done R) (cells : List ℤ) : Type 0 where
    pub outcome : alone m b cells ≡ (does cells).outcome
    pub ends_with : result (run_out (m.left (m.begin b)) (m.begin b) cells) ≡ (does cells).result

-- A plan carried out alone on some cells.
abbrev pub carried_out : {R : Type 0} → Plan R → List ℤ → Done R
carried_out (read c next) cells =
    let rest = carried_out (next (slice_index_or cells c (pos 0))) cells in
    record { outcome = given (slice_index_or cells c (pos 0)) rest.outcome; result = rest.result }
carried_out (write c v next) cells = carried_out next (slice_set cells c v)
carried_out (end r) cells = record { outcome = record { handed = []; cells = cells }; result = r }
