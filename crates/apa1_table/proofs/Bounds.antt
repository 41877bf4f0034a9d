-- How large the place of a refusal can be, and how long a list that is read and a table that is written.
-- Assumes nothing.
use Prim.Native.Nat.{ℕ, ◌+◌, ◌*◌, ◌/◌, ◌≤◌, ◌<◌}
use mathlib.Core.Bool.{Bool, false}
use mathlib.Core.Path.{◌≡◌, refl}
use mathlib.Core.List.{List}
use lib.IntN.{ℤ, pos, negsuc}
use lib.ListN.{length}
use native.Mathlib.Omega.{arith}
use Rattle.std.specs.Prelude.{Ok, Err}
use Rattle.answer.specs.Bytes.{Bytes}
use Rattle.answer.specs.Outcome.{input_limit, list_limit, err_at}
use Rattle.answer.specs.Said.{OfOutcome, OfList, AtMost, Bounded, of_cond, of_limited, of_after, list_of, list_map, list_limited}
use Rattle.leb128.specs.Number.{read_signed, Signed}
use Rattle.leb128.proofs.Setting.{signed_value, signed_place}
use Rattle.records.specs.Identifier.{starts_with}
use Rattle.records.specs.Writing.{puts}
use Rattle.records.proofs.Refusals.{of_signed, of_puts}
use Rattle.records.proofs.Bounds.{Moves, Ends, counted_most}
use Rattle.apa1_table.specs.Table.{Row, start, identifier, second_of, first_of, step_at, plain, count_of, head_at, parse, decode, put_of, behind, head_of, build, encode}
use Rattle.apa1_table.specs.Table.Laws.{build_is}
use Rattle.apa1_table.proofs.RoundTrip.{encode_most, encode_legal}
use Rattle.apa1_table.proofs.Refusals.{of_parse}

module _ (strict : Bool) (s : List ℕ) where
  -- a record has at least two bytes
  second_moves : (prev : Row) (d : ℤ) (at next : ℕ) → at < next → (u : Signed) → read_signed strict 64 s next ≡ u → Moves 2 (length s) at (second_of prev d u)
  unfolding second_of
  second_moves prev d at next h (Ok (z, past)) e = let v = signed_value strict 64 s next z past e in (omega (arith, v.1), v.2)
  second_moves prev d at next h (Err x) e = tt

  first_moves : (prev : Row) (at : ℕ) (u : Signed) → read_signed strict 64 s at ≡ u → Moves 2 (length s) at (first_of strict s prev u)
  unfolding first_of
  first_moves prev at (Ok (d, next)) e = second_moves prev d at next (signed_value strict 64 s at d next e).1 (read_signed strict 64 s next) refl
  first_moves prev at (Err x) e = tt

  moves : (at : ℕ) (prev : Row) → Moves 2 (length s) at (step_at strict s at prev)
  unfolding step_at
  moves at prev = first_moves prev at (read_signed strict 64 s at) refl

  plain_ends : (strict : Bool) (u : Signed) → read_signed strict 64 s (length identifier) ≡ u → Ends (length s) (plain u)
  unfolding plain
  plain_ends strict (Ok (z, next)) e = (signed_value strict 64 s (length identifier) z next e).2
  plain_ends strict (Err x) e = tt

  count_ends : (strict : Bool) (u : Signed) → Ends (length s) (count_of u (read_signed strict 64 s (length identifier)))
  unfolding count_of
  count_ends strict (Ok (pos n, next)) = plain_ends strict (read_signed strict 64 s (length identifier)) refl
  count_ends strict (Ok (negsuc n, next)) = tt
  count_ends strict (Err e) = tt

  head_ends : Ends (length s) (head_at strict s)
  unfolding head_at
  head_ends =
      let at = length identifier in
      of_cond (Ends (length s)) (starts_with identifier s) (count_of (read_signed false 64 s at) _) (err_at _ 0) (count_ends _ (read_signed false 64 s at)) tt

  most : length s ≤ input_limit → OfList (λ (l : List Row). length l ≤ input_limit / 2) (parse strict s)
  unfolding parse
  most h =
      list_map (λ (l : List Row). 2 * length l ≤ length s) (λ (l : List Row). length l ≤ input_limit / 2) (parse strict s) (λ l k. omega arith)
      (counted_most (step_at strict s) (length s) 2 (length s) moves start (head_at strict s) head_ends)

  places : Bytes s → length s ≤ input_limit → OfOutcome (AtMost input_limit) (parse strict s)
  places bytes h =
      of_parse (AtMost input_limit) strict s (omega arith) (λ strict at. of_signed (AtMost input_limit) (read_signed strict 64 s at) (λ why p e. omega (arith, signed_place strict 64 s at (omega arith) bytes e)))
      (λ n next e. omega (arith, signed_value false 64 s (length identifier) (negsuc n) next e)) (λ at k. omega arith)

  pub decode_bounded : Bytes s → Bounded input_limit (input_limit / 2) (decode strict s)
  unfolding decode
  decode_bounded bytes =
      record {
        place = of_limited (AtMost input_limit) input_limit (length s) (parse strict s) (omega arith) (places bytes);
        long = list_limited (λ (l : List Row). length l ≤ input_limit / 2) input_limit (length s) (parse strict s) most;
      }

-- ---- what is written
module _ (l : List Row) where
  index : length l ≤ list_limit → OfOutcome (AtMost list_limit) (build l)
  index h =
      rw build_is (of_after (AtMost list_limit) (head_of (length l)) (puts put_of behind 0 start l) (of_puts (AtMost list_limit) put_of behind 0 start l (λ why j k. omega arith)))

  indexes : OfOutcome (AtMost list_limit) (encode l)
  unfolding encode
  indexes = of_limited (AtMost list_limit) list_limit (length l) (build l) (omega arith) index

  pub encode_bounded : Bounded list_limit (14 + 20 * list_limit) (encode l)
  encode_bounded = record { place = indexes; long = list_of (λ (b : List ℕ). length b ≤ 14 + 20 * list_limit) (encode l) (λ b e. omega (arith, encode_most l e, encode_legal l e)) }
