-- The law of runs: what a book promises to whoever believes its numbered commits. It speaks of calls, tellings, commits, words
-- and cells, and of nothing inside the book.
use Rattle.std.specs.Prelude.{◌≡◌, ℕ, ◌+◌, ◌*◌, ◌%◌, ◌<◌, ◌≤◌, true, false, List, ◌∷◌, ◌++◌, ℤ, pos, Some, ◌≢◌, slice_index_or}
use Rattle.body.specs.declared.body.Body.{Ghosts}
use Rattle.lane.specs.declared.answer.Answer.{Answer}
use Rattle.lane.specs.declared.answer.Answer.TheVariants.{BrokenOff, Committed}
use Rattle.body.specs.Serial.{leaves, Agrees, ordered, upto}
use Rattle.lane.specs.declared.told.Told.{Told}
use Rattle.lane.specs.declared.told.Told.TheVariants.{Handed}
use Rattle.lane.specs.History.{stepped, Moment, History, number_after, flag_after, body_of, attempt, start_of, own_or, commits, steps_of}

-- The amounts and the number that a book was opened with.
pub record Opening : Type 0 where
  pub cells : List ℤ
  pub number : ℕ

module _ {B : Type 0} (m : Ghosts B) (o : Opening) where
  abbrev number_at : History B → ℕ
  number_at h = number_after o.number h

  -- Seat k takes the lane, or gives it back, by the moment e after h: it was stepped, and the number became odd, or even.
  abbrev pub Turns : ℕ → ℕ → ℕ → Moment B → History B → Type 0
  Turns k before after e h = ((a : Answer) × (t : Told) × (e.call ≡ stepped k a t)) × (number_at h % 2 ≡ before) × (e.number % 2 ≡ after)

  abbrev pub Takes : ℕ → Moment B → History B → Type 0
  Takes k e h = Turns k 0 1 e h

  abbrev pub Gives : ℕ → Moment B → History B → Type 0
  Gives k e h = Turns k 1 0 e h

  pub record Sound (h : History B) (cells : List ℤ) : Type 0 where
    -- The serial run hands each committed transaction just what the attempt that committed was handed.
    pub serial : Agrees m (ordered (commits h)) o.cells
    -- Whenever the number is even, the cells are what the serial run leaves.
    pub settled : number_at h % 2 ≡ 0 → cells ≡ leaves m (ordered (commits h)) o.cells
    -- Every amount ever handed, to any attempt, committed or not, is the attempt's own last write to the cell, or what the
    -- serial run over the commits numbered up to its start leaves there.
    pub snapshot : (newer older : History B) (e : Moment B) (k : ℕ) (a : Answer) (c : ℕ) (v : ℤ)
        → h ≡ newer ++ (e ∷ older) → e.call ≡ stepped k a (Handed c v)
        → v ≡ own_or c (slice_index_or (leaves m (ordered (upto (start_of k older) (commits h))) o.cells) c (pos 0)) (attempt k older)
    -- No step of the master answers that it is broken off.
    pub never_broken : (newer older : History B) (e : Moment B) (t : Told) → h ≡ newer ++ (e ∷ older) → e.call ≢ stepped 0 BrokenOff t
    -- While the flag is set no helper takes the lane, and only the master's taking of the lane clears it.
    pub reserved : (newer older : History B) (e : Moment B) → h ≡ newer ++ (e ∷ older) → flag_after older ≡ true
        → (((k : ℕ) → Takes k e older → k ≡ 0) × (e.flag ≡ false → Takes 0 e older))
    -- A helper that took the lane and has not given it back has made at most 160 steps since: by its 161st it has.
    pub gives_back : (newer older : History B) (e : Moment B) (k : ℕ) → h ≡ newer ++ (e ∷ older) → 0 < k → Takes k e older
        → ((new old : History B) (f : Moment B) → newer ≡ new ++ (f ∷ old) → Gives k f (old ++ (e ∷ older)) → ⊥)
        → steps_of k newer ≤ 160
    -- From a moment when the master has reserved and the number is even, a master that has not committed has made at most
    -- 2 * length + 2 steps: one more at the most brings the commit.
    pub soon : (newer older : History B) (b : B) → h ≡ newer ++ older → flag_after older ≡ true → number_at older % 2 ≡ 0 → body_of 0 older ≡ Some b
        → ((new old : History B) (f : Moment B) (n : ℕ) (t : Told) → newer ≡ new ++ (f ∷ old) → f.call ≢ stepped 0 (Committed n) t)
        → steps_of 0 newer ≤ 2 * m.len b + 2
