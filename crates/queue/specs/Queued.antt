-- What a queue holds, and what it holds after a seat joined.
use Rattle.std.specs.Prelude.{ℕ, cond, List, [], ◌∷◌, ◌++◌, length, take, nat_lt}
use Rattle.queue.specs.declared.line.Queue.{Queue}

-- The seats in the queue, oldest first.
abbrev pub queued : Queue → List ℕ
queued q = take q.len q.seats

-- A queue has room for eight.
abbrev pub with_last : ℕ → List ℕ → List ℕ
with_last k q = cond (nat_lt (length q) 8) (q ++ (k ∷ [])) q
