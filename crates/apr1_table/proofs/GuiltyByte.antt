-- A table that is refused with 5 has a number outside its width of 32 bits, and the place is that of its last allowed byte.
-- Assumes nothing.
use Prim.Native.Nat.{ℕ}
use mathlib.Core.Bool.{Bool}
use mathlib.Core.Path.{◌≡◌, refl}
use mathlib.Core.List.{List}
use lib.ListN.{length}
use native.Mathlib.Omega.{arith}
use Rattle.answer.specs.declared.Refusal.TheVariants.{Limit, Identifier, Width, Space, Trailing}
use Rattle.answer.specs.Bytes.{Bytes}
use Rattle.answer.specs.Outcome.{refused, input_limit}
use Rattle.answer.specs.Said.{Said, OfOutcome, of_refused, of_limited}
use Rattle.leb128.specs.Number.{read_unsigned}
use Rattle.leb128.proofs.Setting.{unsigned_outside}
use Rattle.records.proofs.Refusals.{OfFive, another, OfUnsigned, of_unsigned}
use Rattle.apr1_table.specs.Table.{parse, decode}
use Rattle.apr1_table.specs.GuiltyByte.{WidthFault}
use Rattle.apr1_table.proofs.Refusals.{of_parse}

module _ (strict : Bool) (s : List ℕ) (bytes : Bytes s) where
  -- what is said of a refusal
  abbrev Five : Said
  Five = OfFive (WidthFault s)

  number : (at : ℕ) → OfUnsigned Five (read_unsigned strict 32 s at)
  number at = of_unsigned Five (read_unsigned strict 32 s at) (λ why p e f. unsigned_outside strict 32 s at (omega arith) bytes e f)

  whole : OfOutcome Five (decode strict s)
  unfolding decode
  whole =
      of_limited Five input_limit (length s) (parse strict s) (another (WidthFault s) Limit 0 (λ e. omega arith))
      (λ h. of_parse Five strict s (another (WidthFault s) Identifier 0 (λ e. omega arith)) number
      (λ at v next e. another (WidthFault s) Space at (λ f. omega arith)) (λ at k. another (WidthFault s) Trailing at (λ e. omega arith)))

  pub decode_guilty : {p : ℕ} → decode strict s ≡ refused Width p → WidthFault s p
  decode_guilty e = of_refused Five e whole refl
