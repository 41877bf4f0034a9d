-- How large the place of a refusal can be, and how long a list that is read and a table that is written.
-- Assumes nothing.
use Prim.Native.Nat.{ℕ, ◌+◌, ◌*◌, ◌/◌, ◌≤◌, ◌<◌}
use mathlib.Core.Path.{◌≡◌, refl}
use mathlib.Core.Bool.{Bool}
use mathlib.Core.List.{List}
use lib.IntN.{ℤ, pos, negsuc}
use lib.ListN.{length}
use native.Mathlib.Omega.{arith}
use Rattle.answer.specs.declared.Refusal.TheVariants.{Zero}
use Rattle.answer.specs.Bytes.{Bytes}
use Rattle.answer.specs.Outcome.{input_limit, list_limit}
use Rattle.answer.specs.Said.{OfOutcome, OfList, AtMost, Bounded, of_cond, of_limited, of_after, list_of, list_map, list_limited}
use Rattle.leb128.specs.Number.{IsWidth, read_unsigned, read_signed, short_unsigned}
use Rattle.leb128.proofs.Setting.{unsigned_value, signed_value, unsigned_place, signed_place}
use Rattle.records.specs.Columns.{Each}
use Rattle.records.specs.Reading.{one, none}
use Rattle.records.specs.Writing.{puts}
use Rattle.records.proofs.Refusals.{OfUnsigned, OfSigned, of_unsigned, of_signed, of_puts}
use Rattle.records.proofs.Bounds.{Moves, Ends, counted_most}
use Rattle.relleb_table.specs.Table.{Row, State, start, no_change, with_addend, with_symbol, with_type, with_offset, step_at, parse, decode, put_of, behind, build, encode}
use Rattle.relleb_table.specs.Table.Laws.{build_is}
use Rattle.relleb_table.proofs.Refusals.{of_parse}
use Rattle.relleb_table.proofs.RoundTrip.{Fine, encode_most, encode_legal}
use Rattle.std.specs.Prelude.{Ok, Err}
use Rattle.leb128.specs.Number.{Unsigned, Signed}

module _ (strict : Bool) (W : ℕ) (s : List ℕ) where
  -- a record has at least three bytes
  addend_moves : (base : ℤ) (o t y at next : ℕ) → at + 2 < next → (u : Signed) → read_signed strict W s next ≡ u → Moves 3 (length s) at (with_addend strict W next base o t y u)
  unfolding with_addend
  addend_moves base o t y at next h (Ok (z, past)) e =
      let v = signed_value strict W s next z past e in
      of_cond (Moves 3 (length s) at) (no_change strict z) (none Zero next) (one _ past _) tt (omega (arith, v.1), v.2)
  addend_moves base o t y at next h (Err x) e = tt

  symbol_moves : (base : ℤ) (o t at next : ℕ) → at + 1 < next → (u : Signed) → read_signed strict 33 s next ≡ u → Moves 3 (length s) at (with_symbol strict W s base o t u)
  unfolding with_symbol
  symbol_moves base o t at next h (Ok ((pos y), past)) e = let v = signed_value strict 33 s next (pos y) past e in (omega (arith, v.1), v.2)
  symbol_moves base o t at next h (Ok ((negsuc y), past)) e =
      addend_moves base o t y at past (omega (arith, (signed_value strict 33 s next (negsuc y) past e).1)) (read_signed strict W s past) refl
  symbol_moves base o t at next h (Err x) e = tt

  type_moves : (prev : State) (o at next : ℕ) → at < next → (u : Signed) → read_signed strict 32 s next ≡ u → Moves 3 (length s) at (with_type strict W s prev o u)
  unfolding with_type
  type_moves prev o at next h (Ok (d, past)) e = symbol_moves prev.addend o _ at past (omega (arith, (signed_value strict 32 s next d past e).1)) (read_signed strict 33 s past) refl
  type_moves prev o at next h (Err x) e = tt

  offset_moves : (prev : State) (at : ℕ) (u : Unsigned) → read_unsigned strict W s at ≡ u → Moves 3 (length s) at (with_offset strict W s prev u)
  unfolding with_offset
  offset_moves prev at (Ok (d, next)) e = type_moves prev _ at next (unsigned_value strict W s at d next e).1 (read_signed strict 32 s next) refl
  offset_moves prev at (Err x) e = tt

  moves : (at : ℕ) (prev : State) → Moves 3 (length s) at (step_at strict W s at prev)
  unfolding step_at
  moves at prev = offset_moves prev at (read_unsigned strict W s at) refl

  count_ends : (strict : Bool) (u : Unsigned) → read_unsigned strict 64 s 0 ≡ u → Ends (length s) u
  count_ends strict (Ok (n, first)) e = (unsigned_value strict 64 s 0 n first e).2
  count_ends strict (Err x) e = tt

  most : length s ≤ input_limit → OfList (λ (l : List Row). length l ≤ input_limit / 3) (parse strict W s)
  unfolding parse
  most h =
      list_map (λ (l : List Row). 3 * length l ≤ length s) (λ (l : List Row). length l ≤ input_limit / 3) (parse strict W s) (λ l k. omega arith)
      (counted_most (step_at strict W s) (length s) 3 (length s) moves start _ (count_ends _ _ refl))

  module _ (wide : 0 < W) (bytes : Bytes s) where
    unsigned : (strict : Bool) (B at : ℕ) → 0 < B → length s ≤ input_limit → OfUnsigned (AtMost input_limit) (read_unsigned strict B s at)
    unsigned strict B at w h = of_unsigned (AtMost input_limit) (read_unsigned strict B s at) (λ why p e. omega (arith, unsigned_place strict B s at w bytes e))

    signed : (B at : ℕ) → 0 < B → length s ≤ input_limit → OfSigned (AtMost input_limit) (read_signed strict B s at)
    signed B at w h = of_signed (AtMost input_limit) (read_signed strict B s at) (λ why p e. omega (arith, signed_place strict B s at w bytes e))

    places : length s ≤ input_limit → OfOutcome (AtMost input_limit) (parse strict W s)
    places h =
        of_parse (AtMost input_limit) strict W s (λ strict. unsigned strict 64 0 (omega arith) h) (λ at. unsigned strict W at wide h) (λ at. signed 32 at (omega arith) h) (λ at. signed 33 at (omega arith) h)
        (λ at. signed W at wide h) (λ at past e f. omega (arith, signed_value strict W s at e past f)) (λ at k. omega arith)

    pub decode_bounded : Bounded input_limit (input_limit / 3) (decode strict W s)
    unfolding decode
    decode_bounded =
        record {
          place = of_limited (AtMost input_limit) input_limit (length s) (parse strict W s) (omega arith) places;
          long = list_limited (λ (l : List Row). length l ≤ input_limit / 3) input_limit (length s) (parse strict W s) most;
        }

-- ---- what is written
module _ (W : ℕ) (l : List Row) where
  index : length l ≤ list_limit → OfOutcome (AtMost list_limit) (build W l)
  index h =
      rw build_is (of_after (AtMost list_limit) (short_unsigned (length l)) (puts (put_of W) behind 0 start l) (of_puts (AtMost list_limit) (put_of W) behind 0 start l (λ why j k. omega arith)))

  indexes : OfOutcome (AtMost list_limit) (encode W l)
  unfolding encode
  indexes = of_limited (AtMost list_limit) list_limit (length l) (build W l) (omega arith) index

  pub encode_bounded : IsWidth W → Each Fine l → Bounded list_limit (10 + 30 * list_limit) (encode W l)
  encode_bounded wide fine =
      record { place = indexes; long = list_of (λ (b : List ℕ). length b ≤ 10 + 30 * list_limit) (encode W l) (λ b e. omega (arith, encode_most W l wide e fine, (encode_legal W l e).0)) }
