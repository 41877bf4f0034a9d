-- What is said of every refusal of a number, of a negative count, of the end and of the identifier is true of every refusal of a table.
-- Assumes nothing.
use Prim.Native.Nat.{ℕ, ◌<◌}
use mathlib.Core.Bool.{Bool, false}
use mathlib.Core.Path.{◌≡◌, refl}
use mathlib.Core.List.{List}
use lib.IntN.{ℤ, pos, negsuc}
use lib.ListN.{length}
use Rattle.std.specs.Prelude.{Ok, Err}
use Rattle.answer.specs.declared.Refusal.TheVariants.{Identifier, Width, Trailing}
use Rattle.answer.specs.Said.{Said, OfOutcome, of_cond}
use Rattle.answer.specs.Outcome.{err_at}
use Rattle.leb128.specs.Number.{read_signed, Signed, ok_at}
use Rattle.records.specs.Identifier.{starts_with}
use Rattle.records.proofs.Refusals.{OfUnsigned, OfSigned, OfStep, of_counted}
use Rattle.apa1_table.specs.Table.{Row, start, identifier, second_of, first_of, step_at, plain, count_of, head_at, parse}

module _ (P : Said) (strict : Bool) (s : List ℕ) (named : P Identifier 0) (number : (strict : Bool) (at : ℕ) → OfSigned P (read_signed strict 64 s at))
    (negative : (n next : ℕ) → read_signed false 64 s (length identifier) ≡ ok_at (negsuc n) next → P Width (length identifier)) (over : (at : ℕ) → at < length s → P Trailing at) where
  second : (prev : Row) (d : ℤ) (u : Signed) → OfSigned P u → OfStep P (second_of prev d u)
  unfolding second_of
  second prev d (Ok (e, past)) h = tt
  second prev d (Err e) h = h

  first : (prev : Row) (u : Signed) → OfSigned P u → OfStep P (first_of strict s prev u)
  unfolding first_of
  first prev (Ok (d, next)) h = second prev d (read_signed strict 64 s next) (number strict next)
  first prev (Err e) h = h

  step : (at : ℕ) (prev : Row) → OfStep P (step_at strict s at prev)
  unfolding step_at
  step at prev = first prev (read_signed strict 64 s at) (number strict at)

  plains : (u : Signed) → OfSigned P u → OfUnsigned P (plain u)
  unfolding plain
  plains (Ok (z, first)) h = tt
  plains (Err e) h = h

  counts : (u v : Signed) → read_signed false 64 s (length identifier) ≡ u → OfSigned P u → OfSigned P v → OfUnsigned P (count_of u v)
  unfolding count_of
  counts (Ok (pos n, next)) v e h k = plains v k
  counts (Ok (negsuc n, next)) v e h k = negative n next e
  counts (Err x) v e h k = h

  head : OfUnsigned P (head_at strict s)
  unfolding head_at
  head =
      let at = length identifier in
      of_cond (OfUnsigned P) (starts_with identifier s) (count_of (read_signed false 64 s at) _) (err_at Identifier 0)
      (counts (read_signed false 64 s at) _ refl (number false at) (number _ at)) named

  pub of_parse : OfOutcome P (parse strict s)
  unfolding parse
  of_parse = of_counted P (step_at strict s) (length s) step over start (head_at strict s) head
