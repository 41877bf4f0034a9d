-- A table that is refused with 5 has a number outside its width, and the place is that of its last allowed byte.
-- Assumes nothing.
use Prim.Native.Nat.{ℕ, ◌<◌}
use mathlib.Core.Bool.{Bool}
use mathlib.Core.List.{List}
use mathlib.Core.Logic.{inl, inr}
use mathlib.Core.Path.{◌≡◌, refl}
use lib.ListN.{length}
use native.Mathlib.Omega.{arith}
use Rattle.answer.specs.declared.Refusal.TheVariants.{Limit, Width, Trailing, Zero}
use Rattle.answer.specs.Bytes.{Bytes}
use Rattle.answer.specs.Outcome.{refused, input_limit}
use Rattle.answer.specs.Said.{Said, OfOutcome, of_refused, of_limited}
use Rattle.leb128.specs.Number.{read_unsigned, read_signed}
use Rattle.leb128.proofs.Setting.{unsigned_outside, signed_outside}
use Rattle.records.proofs.Refusals.{OfFive, another, of_unsigned, of_signed}
use Rattle.relleb_table.specs.Table.{parse, decode}
use Rattle.relleb_table.specs.GuiltyByte.{WidthFault}
use Rattle.relleb_table.proofs.Refusals.{of_parse}

module _ (strict : Bool) (W : ℕ) (wide : 0 < W) (s : List ℕ) (bytes : Bytes s) where
  -- what is said of a refusal
  abbrev Five : Said
  Five = OfFive (WidthFault W s)

  whole : OfOutcome Five (decode strict W s)
  unfolding decode
  whole =
      of_limited Five input_limit (length s) (parse strict W s) (another (WidthFault W s) Limit 0 (λ e. omega arith))
      (λ h. of_parse Five strict W s
      (λ strict. of_unsigned Five (read_unsigned strict 64 s 0) (λ why p e f. inl (unsigned_outside strict 64 s 0 (omega arith) bytes e f)))
      (λ at. of_unsigned Five (read_unsigned strict W s at) (λ why p e f. inr (inl (unsigned_outside strict W s at wide bytes e f))))
      (λ at. of_signed Five (read_signed strict 32 s at) (λ why p e f. inr (inr (inl (signed_outside strict 32 s at (omega arith) bytes e f)))))
      (λ at. of_signed Five (read_signed strict 33 s at) (λ why p e f. inr (inr (inr (inl (signed_outside strict 33 s at (omega arith) bytes e f))))))
      (λ at. of_signed Five (read_signed strict W s at) (λ why p e f. inr (inr (inr (inr (signed_outside strict W s at wide bytes e f))))))
      (λ at past e f. another (WidthFault W s) Zero at (λ e. omega arith))
      (λ at k. another (WidthFault W s) Trailing at (λ e. omega arith)))

  pub decode_guilty : {p : ℕ} → decode strict W s ≡ refused Width p → WidthFault W s p
  decode_guilty e = of_refused Five e whole refl
