-- What it is to be a body: the laws over its ghost members.
use Rattle.std.specs.Prelude.{◌≡◌, ℕ, ◌<◌, ◌≤◌, ℤ, unsigned_abs}
use Rattle.money.specs.Amounts.{limit}
use Rattle.body.specs.declared.request.Request.{Request}
use Rattle.body.specs.declared.request.Request.TheVariants.{Read, Write, End}

-- An amount within the limit.
abbrev pub Within : ℤ → Type 0
Within a = unsigned_abs a ≤ limit

-- A request names a cell below the reach, and writes an amount within the limit.
abbrev pub Proper : ℕ → Request → Type 0
Proper reach (Read c) = c < reach
Proper reach (Write c a) = (c < reach) × Within a
Proper reach End = Unit {0}

-- Being told an amount answers a read, and then fewer requests are to come; otherwise it changes nothing.
abbrev pub ReadTold : {B : Type 0} → (B → ℕ) → B → B → Request → Type 0
ReadTold left b b' (Read c) = left b' < left b
ReadTold left b b' (Write c a) = b' ≡ b
ReadTold left b b' End = b' ≡ b

-- Being told that a write was taken answers a write, and then fewer requests are to come; otherwise it changes nothing.
abbrev pub WriteTaken : {B : Type 0} → (B → ℕ) → B → B → Request → Type 0
WriteTaken left b b' (Read c) = b' ≡ b
WriteTaken left b b' (Write c a) = left b' < left b
WriteTaken left b b' End = b' ≡ b

-- What never changes: the start, the reach and the length.
pub record Same {B : Type 0} (begin : B → B) (reach len : B → ℕ) (b b' : B) : Type 0 where
  pub start : begin b' ≡ begin b
  pub reaches : reach b' ≡ reach b
  pub lasts : len b' ≡ len b

-- The laws. That at least one request is to come where the body does not end follows from reads and writes.
pub record Lawful {B : Type 0} (asks : B → Request) (told : B → ℤ → B) (taken : B → B) (begin : B → B) (left reach len : B → ℕ) : Type 0 where
  pub proper : (b : B) → Proper (reach b) (asks b)
  pub reads : (b : B) (a : ℤ) → ReadTold left b (told b a) (asks b)
  pub writes : (b : B) → WriteTaken left b (taken b) (asks b)
  pub short : (b : B) → left (begin b) ≤ len b
  pub same_told : (b : B) (a : ℤ) → Same begin reach len b (told b a)
  pub same_taken : (b : B) → Same begin reach len b (taken b)
  pub same_begin : (b : B) → Same begin reach len b (begin b)
