-- What is said of every refusal of a number, of a pair outside the space, of the end and of the identifier is true of every refusal of a table.
-- Assumes nothing.
use Prim.Native.Nat.{ℕ, ◌<◌}
use mathlib.Core.Bool.{Bool}
use mathlib.Core.Path.{◌≡◌, refl}
use mathlib.Core.List.{List}
use lib.Dec.{leb}
use lib.ListN.{length}
use Rattle.answer.specs.declared.Refusal.TheVariants.{Identifier, Space, Trailing}
use Rattle.answer.specs.Outcome.{Outcome, accepted, refused}
use Rattle.answer.specs.Said.{Said, OfOutcome, of_cond}
use Rattle.leb128.specs.Number.{read_unsigned}
use Rattle.records.specs.Identifier.{starts_with}
use Rattle.records.specs.Reading.{one, none, records}
use Rattle.records.proofs.Refusals.{OfUnsigned, OfStep, of_records}
use Rattle.apr1_table.specs.Table.{Pair, pair, reach, identifier, last, inside, second_of, first_of, step_at, joined, with_first, with_count, parse}
use Rattle.std.specs.Prelude.{Ok, Err}
use Rattle.leb128.specs.Number.{Unsigned, ok_at}

module _ (P : Said) (strict : Bool) (s : List ℕ) (named : P Identifier 0) (number : (at : ℕ) → OfUnsigned P (read_unsigned strict 32 s at))
    (space : (at v next : ℕ) → read_unsigned strict 32 s at ≡ ok_at v next → P Space at) (over : (at : ℕ) → at < length s → P Trailing at) where
  second : (at x c : ℕ) (u : Unsigned) → P Space at → OfUnsigned P u → OfStep P (second_of at x c u)
  unfolding second_of
  second at x c (Ok (d, past)) k h = of_cond (OfStep P) (inside x c d) (one (pair c d) past (reach x (pair c d))) (none Space at) tt k
  second at x c (Err e) k h = h

  first : (at x : ℕ) (u : Unsigned) → read_unsigned strict 32 s at ≡ u → OfUnsigned P u → OfStep P (first_of strict s at x u)
  unfolding first_of
  first at x (Ok (c, next)) e h = second at x c (read_unsigned strict 32 s next) (space at c next e) (number next)
  first at x (Err bad) e h = h

  step : (at x : ℕ) → OfStep P (step_at strict s at x)
  unfolding step_at
  step at x = first at x (read_unsigned strict 32 s at) refl (number at)

  joins : (a : ℕ) (o : Outcome (List Pair)) → OfOutcome P o → OfOutcome P (joined a o)
  unfolding joined
  joins a (accepted ps) h = tt
  joins a (refused why p) h = h

  from_first : (n at : ℕ) (u : Unsigned) → read_unsigned strict 32 s at ≡ u → OfUnsigned P u → OfOutcome P (with_first strict s n at u)
  unfolding with_first
  from_first n at (Ok (a, past)) e h =
      let rest = records (step_at strict s) (length s) n past a in
      of_cond (OfOutcome P) (leb a last) (joined a rest) (refused Space at) (joins a rest (of_records P (step_at strict s) (length s) step over n past a)) (space at a past e)
  from_first n at (Err x) e h = h

  from_count : (u : Unsigned) → OfUnsigned P u → OfOutcome P (with_count strict s u)
  unfolding with_count
  from_count (Ok (n, next)) h = from_first n next (read_unsigned strict 32 s next) refl (number next)
  from_count (Err e) h = h

  pub of_parse : OfOutcome P (parse strict s)
  unfolding parse
  of_parse =
      of_cond (OfOutcome P) (starts_with identifier s) (with_count strict s (read_unsigned strict 32 s (length identifier))) (refused Identifier 0)
      (from_count (read_unsigned strict 32 s (length identifier)) (number (length identifier))) named
