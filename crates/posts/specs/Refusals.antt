-- The number of a refusal to book an import, and how it is printed. The tab is 9.
use Rattle.std.specs.Prelude.{ℕ, List, ◌∷◌, decimal}
use Rattle.lane.specs.Numbers.{open_refusal_number, seat_refusal_number, step_refusal_number}
use Rattle.posts.specs.declared.refusal.BookingRefusal.{BookingRefusal}
use Rattle.posts.specs.declared.refusal.BookingRefusal.TheVariants.{Open, Seat, Step}

abbrev pub booking_refusal_number : BookingRefusal → ℕ
booking_refusal_number (Open refusal) = open_refusal_number refusal
booking_refusal_number (Seat refusal) = seat_refusal_number refusal
booking_refusal_number (Step refusal) = step_refusal_number refusal

-- No line of the text is at fault, so that 0 stands for it.
abbrev pub booking_refusal_text : BookingRefusal → List ℕ
booking_refusal_text refusal = 48 ∷ 9 ∷ decimal (booking_refusal_number refusal)
