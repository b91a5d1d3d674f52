-- When the line of a record is refused, and what it answers otherwise.
use Rattle.std.specs.Prelude.{◌≡◌, ℕ, ◌+◌, ◌<◌, ◌≤◌, List, length, Result, MatchResult, slice_index_or}
use Rattle.journal.specs.declared.record.Record.{Record}
use Rattle.journal.specs.declared.refusal.LineRefusal.{LineRefusal}
use Rattle.journal.specs.declared.refusal.LineRefusal.TheVariants.{NoRecord, NoPlace, NoSpace}
use Rattle.journal.specs.Lines.{line_of, put}

abbrev pub line_refusal_number : LineRefusal → ℕ
line_refusal_number NoRecord = 50
line_refusal_number NoPlace = 51
line_refusal_number NoSpace = 52

-- The journal has record i, and it is this one.
abbrev pub HasRecord : List Record → ℕ → Record → Type 0
HasRecord journal i r = (i < length journal) × ((other : Record) → slice_index_or journal i other ≡ r)

-- The first of the three conditions that holds.
abbrev pub Refuses : List Record → ℕ → List ℕ → ℕ → LineRefusal → Type 0
Refuses journal i buffer place NoRecord = length journal ≤ i
Refuses journal i buffer place NoPlace = (i < length journal) × (length buffer < place)
Refuses journal i buffer place NoSpace =
    (place ≤ length buffer) × ((r : Record) × HasRecord journal i r × (length buffer < place + length (line_of r)))

-- Record i's line stands in the buffer from the place on, and the place after it is answered; or the buffer is as it was.
abbrev pub WritesLine : List Record → ℕ → List ℕ → ℕ → Result ℕ LineRefusal → List ℕ → Type 0
WritesLine journal i buffer place r after =
    MatchResult r
    (λ end. (kept : Record) × HasRecord journal i kept × (end ≡ place + length (line_of kept)) × (end ≤ length buffer) × (after ≡ put place (line_of kept) buffer))
    (λ refusal. Refuses journal i buffer place refusal × (after ≡ buffer))
