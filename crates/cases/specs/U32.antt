-- The lax number reader at width 32.
-- Assumes nothing.
use Rattle.std.specs.Prelude.{ℕ, false, List}
use Rattle.leb128.specs.Number.{Unsigned, read_unsigned}

-- what is read at a place
abbrev pub read_u32 : List ℕ → ℕ → Unsigned
read_u32 s at = read_unsigned false 32 s at
