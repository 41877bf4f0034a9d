-- What a refusal 5 says of a table.
-- Assumes nothing.
use Rattle.std.specs.Prelude.{ℕ, List}
use Rattle.leb128.specs.LastByte.{OutsideUnsigned}

-- what makes a table be refused with 5 at a place: a number outside its width
abbrev pub WidthFault : List ℕ → ℕ → Type 0
WidthFault s p = OutsideUnsigned 32 s p
