-- What a refusal 5 says of a table.
-- Assumes nothing.
use Rattle.std.specs.Prelude.{ℕ, false, List, ◌⊎◌, ◌≡◌, negsuc, length}
use Rattle.leb128.specs.Number.{read_signed, ok_at}
use Rattle.leb128.specs.LastByte.{OutsideSigned}
use Rattle.apa1_table.specs.Table.{identifier}

-- the count is read, padded or not, and negative
abbrev pub NegativeCount : List ℕ → Type 0
NegativeCount s = (n : ℕ) × (next : ℕ) × (read_signed false 64 s (length identifier) ≡ ok_at (negsuc n) next)

-- what makes a table be refused with 5 at a place: a number outside its width, or a negative count, at its first byte
abbrev pub WidthFault : List ℕ → ℕ → Type 0
WidthFault s p = OutsideSigned 64 s p ⊎ ((p ≡ length identifier) × NegativeCount s)
