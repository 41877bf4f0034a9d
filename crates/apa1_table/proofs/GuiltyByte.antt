-- A table that is refused with 5 has a number outside its width of 64 bits, and the place is that of its last allowed byte; or its count
-- is negative, and the place is that of the count's first byte.
-- Assumes nothing.
use Prim.Native.Nat.{ℕ}
use mathlib.Core.Bool.{Bool}
use mathlib.Core.List.{List}
use mathlib.Core.Logic.{inl, inr}
use mathlib.Core.Path.{◌≡◌, refl}
use lib.ListN.{length}
use native.Mathlib.Omega.{arith}
use Rattle.answer.specs.declared.Refusal.TheVariants.{Limit, Identifier, Width, Trailing}
use Rattle.answer.specs.Bytes.{Bytes}
use Rattle.answer.specs.Outcome.{refused, input_limit}
use Rattle.answer.specs.Said.{Said, OfOutcome, of_refused, of_limited}
use Rattle.leb128.specs.Number.{read_signed}
use Rattle.leb128.proofs.Setting.{signed_outside}
use Rattle.records.proofs.Refusals.{OfFive, another, OfSigned, of_signed}
use Rattle.apa1_table.specs.Table.{parse, decode}
use Rattle.apa1_table.specs.GuiltyByte.{WidthFault}
use Rattle.apa1_table.proofs.Refusals.{of_parse}

module _ (s : List ℕ) (bytes : Bytes s) where
  -- what is said of a refusal
  abbrev Five : Said
  Five = OfFive (WidthFault s)

  number : (strict : Bool) (at : ℕ) → OfSigned Five (read_signed strict 64 s at)
  number strict at = of_signed Five (read_signed strict 64 s at) (λ why p e f. inl (signed_outside strict 64 s at (omega arith) bytes e f))

  whole : (strict : Bool) → OfOutcome Five (decode strict s)
  unfolding decode
  whole strict =
      of_limited Five input_limit (length s) (parse strict s) (another (WidthFault s) Limit 0 (λ e. omega arith))
      (λ h. of_parse Five strict s (another (WidthFault s) Identifier 0 (λ e. omega arith)) number
      (λ n next e f. inr (refl, (n, next, e))) (λ at k. another (WidthFault s) Trailing at (λ e. omega arith)))

  pub decode_guilty : (strict : Bool) {p : ℕ} → decode strict s ≡ refused Width p → WidthFault s p
  decode_guilty strict e = of_refused Five e (whole strict) refl
