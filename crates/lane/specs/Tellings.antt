-- The tellings that a history records are real: the body was told just that, and asked for it.
use Rattle.std.specs.Prelude.{◌≡◌, List, Some, None, Option, slice_index_or, slice_set}
use Rattle.body.specs.declared.body.Body.{Ghosts}
use Rattle.body.specs.declared.request.Request.TheVariants.{Read, Write}
use Rattle.lane.specs.declared.told.Told.{Told}
use Rattle.lane.specs.declared.told.Told.TheVariants.{Nothing, Restarted, Handed, Taken}
use Rattle.lane.specs.Effects.{body_after}
use Rattle.lane.specs.History.{Call, seated, stepped, other}

module _ {B : Type 0} (m : Ghosts B) where
  -- An amount is handed to a body that asks to read that cell, and a write is taken of a body that asks for just that.
  abbrev pub AnswersRequest : Told → B → Type 0
  AnswersRequest Nothing b = Unit {0}
  AnswersRequest (Restarted n) b = Unit {0}
  AnswersRequest (Handed c v) b = m.asks b ≡ Read c
  AnswersRequest (Taken c v) b = m.asks b ≡ Write c v

  -- The body at the stepped seat is told this, and every other is as it was. Any other call tells no body.
  abbrev pub Tells : Call B → List (Option B) → List (Option B) → Type 0
  Tells (seated k b) before after = after ≡ slice_set before k (Some b)
  Tells (stepped k a t) before after =
      (b : B) × (slice_index_or before k None ≡ Some b) × (after ≡ slice_set before k (Some (body_after m t b)))
  Tells other before after = after ≡ before

  -- What a step tells answers what the body asks for.
  abbrev pub Answered : Call B → List (Option B) → Type 0
  Answered (seated k b) before = Unit {0}
  Answered (stepped k a t) before = (b : B) → slice_index_or before k None ≡ Some b → AnswersRequest t b
  Answered other before = Unit {0}
