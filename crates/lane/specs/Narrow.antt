-- What a step can name.
use Rattle.std.specs.Prelude.{◌^◌, ◌<◌}
use Rattle.body.specs.declared.request.Request.{Request}
use Rattle.body.specs.declared.request.Request.TheVariants.{Read, Write, End}

-- A request names its cell by a number of 32 bits, as steps do. Every request does that names a cell of a book.
abbrev pub IsNarrow : Request → Type 0
IsNarrow (Read c) = c < 2 ^ 32
IsNarrow (Write c v) = c < 2 ^ 32
IsNarrow End = Unit {0}
