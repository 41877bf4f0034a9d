-- What is said of every refusal of a number, of an addend's difference of 0 and of the end is true of every refusal of a table.
-- Assumes nothing.
use Prim.Native.Nat.{ℕ, ◌<◌}
use mathlib.Core.Bool.{Bool}
use mathlib.Core.List.{List}
use mathlib.Core.Path.{◌≡◌, refl}
use lib.IntN.{ℤ, pos, negsuc}
use lib.ListN.{length}
use Rattle.answer.specs.declared.Refusal.TheVariants.{Trailing, Zero}
use Rattle.answer.specs.Said.{Said, OfOutcome, of_cond}
use Rattle.leb128.specs.Number.{read_unsigned, read_signed}
use Rattle.records.specs.Reading.{one, none}
use Rattle.records.proofs.Refusals.{OfUnsigned, OfSigned, OfStep, of_counted}
use Rattle.relleb_table.specs.Table.{State, start, no_change, with_addend, with_symbol, with_type, with_offset, step_at, parse}
use Rattle.std.specs.Prelude.{Ok, Err}
use Rattle.leb128.specs.Number.{Unsigned, Signed, ok_at}

module _ (P : Said) (strict : Bool) (W : ℕ) (s : List ℕ) (counts : (strict : Bool) → OfUnsigned P (read_unsigned strict 64 s 0)) (offsets : (at : ℕ) → OfUnsigned P (read_unsigned strict W s at))
    (types : (at : ℕ) → OfSigned P (read_signed strict 32 s at)) (symbols : (at : ℕ) → OfSigned P (read_signed strict 33 s at)) (addends : (at : ℕ) → OfSigned P (read_signed strict W s at))
    (zero : (at past : ℕ) (e : ℤ) → read_signed strict W s at ≡ ok_at e past → P Zero at) (over : (at : ℕ) → at < length s → P Trailing at) where
  addend : (at : ℕ) (base : ℤ) (o t y : ℕ) (u : Signed) → read_signed strict W s at ≡ u → OfSigned P u → OfStep P (with_addend strict W at base o t y u)
  unfolding with_addend
  addend at base o t y (Ok (e, past)) f h = of_cond (OfStep P) (no_change strict e) (none Zero at) (one _ past _) (zero at past e f) tt
  addend at base o t y (Err e) f h = h

  symbol : (base : ℤ) (o t : ℕ) (u : Signed) → OfSigned P u → OfStep P (with_symbol strict W s base o t u)
  unfolding with_symbol
  symbol base o t (Ok ((pos y), next)) h = tt
  symbol base o t (Ok ((negsuc y), next)) h = addend next base o t y (read_signed strict W s next) refl (addends next)
  symbol base o t (Err e) h = h

  type : (prev : State) (o : ℕ) (u : Signed) → OfSigned P u → OfStep P (with_type strict W s prev o u)
  unfolding with_type
  type prev o (Ok (d, next)) h = symbol prev.addend o _ (read_signed strict 33 s next) (symbols next)
  type prev o (Err e) h = h

  offset : (prev : State) (u : Unsigned) → OfUnsigned P u → OfStep P (with_offset strict W s prev u)
  unfolding with_offset
  offset prev (Ok (d, next)) h = type prev _ (read_signed strict 32 s next) (types next)
  offset prev (Err e) h = h

  step : (at : ℕ) (prev : State) → OfStep P (step_at strict W s at prev)
  unfolding step_at
  step at prev = offset prev (read_unsigned strict W s at) (offsets at)

  pub of_parse : OfOutcome P (parse strict W s)
  unfolding parse
  of_parse = of_counted P (step_at strict W s) (length s) step over start _ (counts _)
