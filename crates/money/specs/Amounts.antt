-- How numbers, currency codes and amounts of money are written, and what reading one of them must answer.
-- Reading is defined by writing: a field is read as the number whose writing it is, and as nothing where there is none.
use Rattle.std.specs.Prelude.{◌≡◌, ℕ, zero, suc, ◌+◌, ◌/◌, ◌%◌, ◌^◌, ◌<◌, ◌≤◌, Bool, cond, List, [], ◌∷◌, ◌++◌, length, ℤ, pos, negsuc, codes, decimal, Option, MatchOption, ◌≢◌, nat_le, unsigned_abs}
use Rattle.std.specs.List.{AllByRecursion}
use Rattle.std.specs.Str.{bytes_eq}

-- No amount lies further than this from zero.
abbrev pub limit : ℕ
limit = 10 ^ 15

-- Whether an amount is within the limit.
abbrev pub within_limit : ℤ → Bool
within_limit a = nat_le (unsigned_abs a) limit

-- A number is read from at most fifteen digits, so it lies below this.
abbrev pub bound : ℕ
bound = 10 ^ 15

-- A currency code: three capital letters.
abbrev pub IsCode : List ℕ → Type 0
IsCode letters = (length letters ≡ 3) × AllByRecursion (λ b. (65 ≤ b) × (b ≤ 90)) letters

-- How many digits an amount has after the point: none for the yen, two for every other code.
abbrev pub places : List ℕ → ℕ
places letters = cond (bytes_eq letters (codes "JPY")) 0 2

-- The last k decimal digits of a number, zeros in front included.
abbrev pub padded : ℕ → ℕ → List ℕ
padded zero n = []
padded (suc k) n = padded k (n / 10) ++ (48 + n % 10) ∷ []

-- What follows the whole units: nothing, or a point and k digits.
abbrev pub fraction : ℕ → ℕ → List ℕ
fraction zero n = []
fraction (suc k) n = 46 ∷ padded (suc k) n

-- n of the smallest unit, with k digits after the point. The whole units have no needless zero in front.
abbrev pub units_text : ℕ → ℕ → List ℕ
units_text k n = decimal (n / 10 ^ k) ++ fraction k n

-- An amount in the smallest unit, with k digits after the point: below zero with a minus in front, zero without.
abbrev pub amount_text : ℕ → ℤ → List ℕ
amount_text k (pos n) = units_text k n
amount_text k (negsuc n) = 45 ∷ units_text k (suc n)

-- The amount has at most fifteen digits before the point.
abbrev pub Short : ℕ → ℤ → Type 0
Short k z = unsigned_abs z / 10 ^ k < bound

-- The amount can be written with k digits after the point, and is within the limit.
abbrev pub Amount : ℕ → ℤ → Type 0
Amount k z = Short k z × (unsigned_abs z ≤ limit)

-- The field is the writing of z.
abbrev pub Writes : ℕ → List ℕ → ℤ → Type 0
Writes k field z = Short k z × (field ≡ amount_text k z)

-- A field that has not the form of an amount: it is the writing of none.
abbrev pub Malformed : ℕ → List ℕ → Type 0
Malformed k field = (z : ℤ) → Writes k field z → ⊥

-- A field that has the form of an amount, beyond the limit.
abbrev pub Beyond : ℕ → List ℕ → Type 0
Beyond k field = (z : ℤ) × Writes k field z × (limit < unsigned_abs z)

-- What reading a code must answer: the letters where they are a code, and otherwise nothing.
abbrev pub ReadsCode : List ℕ → Option (List ℕ) → Type 0
ReadsCode letters r = MatchOption r (IsCode letters → ⊥) (λ c. IsCode letters × (c ≡ letters))

-- What reading a whole number must answer: the number whose decimal writing the field is, and otherwise nothing.
abbrev pub ReadsNumber : List ℕ → Option ℕ → Type 0
ReadsNumber field r = MatchOption r ((n : ℕ) → n < bound → field ≢ decimal n) (λ n. (n < bound) × (field ≡ decimal n))

-- The same for an amount, whether within the limit or not.
abbrev pub ReadsSigned : ℕ → List ℕ → Option ℤ → Type 0
ReadsSigned k field r = MatchOption r (Malformed k field) (Writes k field)

-- The same for an amount with no sign.
abbrev pub ReadsUnits : ℕ → List ℕ → Option ℕ → Type 0
ReadsUnits k field r =
    MatchOption r ((n : ℕ) → n / 10 ^ k < bound → field ≢ units_text k n) (λ n. (n / 10 ^ k < bound) × (field ≡ units_text k n))
