-- What a refusal 5 says of a table.
-- Assumes nothing.
use Rattle.std.specs.Prelude.{ℕ, List, ◌⊎◌}
use Rattle.leb128.specs.LastByte.{OutsideUnsigned, OutsideSigned}

-- what makes a table of W bits be refused with 5 at a place: the count, or the offset's difference, the type's, the symbol field or the
-- addend's difference of a record, outside its width
abbrev pub WidthFault : ℕ → List ℕ → ℕ → Type 0
WidthFault W s p = OutsideUnsigned 64 s p ⊎ (OutsideUnsigned W s p ⊎ (OutsideSigned 32 s p ⊎ (OutsideSigned 33 s p ⊎ OutsideSigned W s p)))
