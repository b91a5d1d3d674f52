-- What the calls of a book promise.
use Rattle.std.specs.Prelude.{◌≡◌, ℕ, true, cond, Some, None, Ok, Err, Result, MatchResult, ◌==◌}
use Rattle.body.specs.declared.body.Body.{Ghosts}
use Rattle.lane.specs.declared.refusal.OpenRefusal.{OpenRefusal}
use Rattle.lane.specs.declared.refusal.PauseRefusal.{PauseRefusal}
use Rattle.lane.specs.Calls.{open_refusal, open_world}
use Rattle.lane.specs.Kept.{BeginsLaw}
use Rattle.lane.specs.Worlds.{World}
use Rattle.book.specs.declared.book.Book.{Book}
use Rattle.book.specs.declared.lists.Lists.{Lists}
use Rattle.book.specs.declared.ticket.ResumeRefusal.{ResumeRefusal}
use Rattle.book.specs.declared.ticket.ResumeRefusal.TheVariants.{OtherBook, NotPaused}
use Rattle.book.specs.declared.ticket.Ticket.{Ticket}
use Rattle.book.specs.Views.{opened_with, world}

-- A book and the lists that are lent to it.
abbrev pub book_world : {B : Type 0} {m : Ghosts B} → Book B m → Lists → World B
book_world b l = world b.desk l

-- Open refuses with the first condition that fails, and leaves the lists as they were. Otherwise the book is the one that
-- was to be opened, and it begins a run of which the law holds.
abbrev pub OpensBook : {B : Type 0} (m : Ghosts B) → ℕ → ℕ → ℕ → Lists → Result (Book B m) OpenRefusal → Lists → Type 0
OpensBook m name helpers number l r l' =
    MatchResult r
    (λ b.
    (open_refusal (opened_with name helpers number l) ≡ None)
    × (book_world b l' ≡ open_world (opened_with name helpers number l))
    × BeginsLaw m (opened_with name helpers number l) (book_world b l'))
    (λ x.
    (open_refusal (opened_with name helpers number l) ≡ Some x)
    × (opened_with name helpers number l' ≡ opened_with name helpers number l))

-- Pause answers a ticket of this book, which is owed, unless a pause stands.
abbrev pub pause_answer : {B : Type 0} {m : Ghosts B} → Book B m → Result Ticket PauseRefusal
pause_answer b = cond b.desk.common.paused (Err record {}) (Ok (record { book = b.desk.name; owed = true }))

-- Resume hands back a ticket of another book, and spends any other.
abbrev pub resume_answer : {B : Type 0} {m : Ghosts B} → Book B m → Ticket → Result (Unit {0}) ResumeRefusal
resume_answer b t =
    cond (t.book == b.desk.name) (cond b.desk.common.paused (Ok tt) (Err NotPaused)) (Err (OtherBook t))

abbrev pub resume_refusal_number : ResumeRefusal → ℕ
resume_refusal_number (OtherBook t) = 40
resume_refusal_number NotPaused = 41
