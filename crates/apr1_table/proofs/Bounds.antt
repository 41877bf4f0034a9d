-- How large the place of a refusal can be, and how long a list that is read and a table that is written.
-- Assumes nothing.
use Prim.Native.Nat.{ℕ, suc, ◌+◌, ◌-◌, ◌*◌, ◌/◌, ◌^◌, ◌≤◌, ◌<◌}
use mathlib.Core.Path.{◌≡◌, refl}
use mathlib.Core.List.{List, [], ◌∷◌}
use mathlib.Core.Bool.{Bool, cond}
use lib.Dec.{leb, ltb}
use lib.ListN.{length, length-append}
use native.Mathlib.Nat.{mul-le-mul_right}
use native.Mathlib.Omega.{arith}
use Rattle.answer.specs.Bytes.{Bytes}
use Rattle.answer.specs.declared.Refusal.TheVariants.{Identifier, Space, Order}
use Rattle.answer.specs.Outcome.{Outcome, accepted, refused, input_limit, list_limit}
use Rattle.answer.specs.Said.{OfOutcome, OfList, AtMost, Bounded, of_cond, of_limited, list_of, list_both, list_limited}
use Rattle.leb128.specs.Number.{read_unsigned}
use Rattle.leb128.proofs.Setting.{unsigned_value, unsigned_place}
use Rattle.records.specs.Columns.{Each}
use Rattle.records.specs.Identifier.{starts_with}
use Rattle.records.specs.Reading.{one, none, records}
use Rattle.records.proofs.Refusals.{of_unsigned}
use Rattle.records.proofs.Bounds.{Moves, Yields, records_most, records_each}
use Rattle.apr1_table.specs.Table.{Pair, pair, run, reach, expand, identifier, last, inside, second_of, first_of, step_at, joined, with_first, with_count, parse, decode, checked, build, encode}
use Rattle.apr1_table.specs.Table.Laws.{run_length, expand_none, expand_more}
use Rattle.apr1_table.proofs.Refusals.{of_parse}
use Rattle.apr1_table.proofs.RoundTrip.{table_most, encode_is, encode_legal}
use Rattle.std.specs.Prelude.{Ok, Err}
use Rattle.leb128.specs.Number.{Unsigned}

-- C has 32 bits
abbrev Few : Pair → Type 0
Few p = p.count < 2 ^ 32

-- so a pair gives at most 2^32 - 1 offsets
expand_most : (x : ℕ) (ps : List Pair) → Each Few ps → length (expand x ps) ≤ length ps * (2 ^ 32 - 1)
expand_most x [] h = rw expand_none (omega arith)
expand_most x (p ∷ ps) h =
    rw expand_more
    (omega (arith, length-append (run x p.count p.gap) (expand (reach x p) ps), run_length x p.count p.gap, expand_most (reach x p) ps h.1, h.0))

module _ (strict : Bool) (s : List ℕ) where
  -- a pair has at least two bytes
  second_moves : (at x c next : ℕ) → at < next → (u : Unsigned) → read_unsigned strict 32 s next ≡ u → Moves 2 (length s) at (second_of at x c u)
  unfolding second_of
  second_moves at x c next h (Ok (d, past)) e =
      let v = unsigned_value strict 32 s next d past e in
      of_cond (Moves 2 (length s) at) (inside x c d) (one (pair c d) past (reach x (pair c d))) (none Space at) (omega (arith, v.1), v.2) tt
  second_moves at x c next h (Err bad) e = tt

  first_moves : (at x : ℕ) (u : Unsigned) → read_unsigned strict 32 s at ≡ u → Moves 2 (length s) at (first_of strict s at x u)
  unfolding first_of
  first_moves at x (Ok (c, next)) e = second_moves at x c next (unsigned_value strict 32 s at c next e).1 (read_unsigned strict 32 s next) refl
  first_moves at x (Err bad) e = tt

  moves : (at x : ℕ) → Moves 2 (length s) at (step_at strict s at x)
  unfolding step_at
  moves at x = first_moves at x (read_unsigned strict 32 s at) refl

  second_few : (at x c : ℕ) → c < 2 ^ 32 → (u : Unsigned) → Yields Few (second_of at x c u)
  unfolding second_of
  second_few at x c h (Ok (d, past)) = of_cond (Yields Few) (inside x c d) (one (pair c d) past (reach x (pair c d))) (none Space at) h tt
  second_few at x c h (Err e) = tt

  first_few : (at x : ℕ) (u : Unsigned) → read_unsigned strict 32 s at ≡ u → Yields Few (first_of strict s at x u)
  unfolding first_of
  first_few at x (Ok (c, next)) e = second_few at x c (unsigned_value strict 32 s at c next e).0 (read_unsigned strict 32 s next)
  first_few at x (Err bad) e = tt

  few : (at x : ℕ) → Yields Few (step_at strict s at x)
  unfolding step_at
  few at x = first_few at x (read_unsigned strict 32 s at) refl

  -- the offsets of pairs one after another, wherever they end
  pub pairs_most : (end n at x : ℕ) → at ≤ length s → OfList (λ (ps : List Pair). length (expand x ps) ≤ length s / 2 * (2 ^ 32 - 1)) (records (step_at strict s) end n at x)
  pairs_most end n at x h =
      list_both (λ (ps : List Pair). at + 2 * length ps ≤ length s) (Each Few) (λ (ps : List Pair). length (expand x ps) ≤ length s / 2 * (2 ^ 32 - 1)) (records (step_at strict s) end n at x)
      (λ ps k f. (let q : length ps ≤ length s / 2 = omega arith in omega (arith, expand_most x ps f, mul-le-mul_right (2 ^ 32 - 1) q)))
      (records_most (step_at strict s) end 2 (length s) moves n at x h) (records_each (step_at strict s) end Few few n at x)

  module _ (in-limit : length s ≤ input_limit) where
    -- how many offsets a table has
    abbrev Long : List ℕ → Type 0
    Long l = length l ≤ 1 + input_limit / 2 * (2 ^ 32 - 1)

    joins : (a : ℕ) (o : Outcome (List Pair)) → OfList (λ (ps : List Pair). length (expand a ps) ≤ length s / 2 * (2 ^ 32 - 1)) o → OfList Long (joined a o)
    unfolding joined
    joins a (accepted ps) h = let q : length s / 2 ≤ input_limit / 2 = omega arith in omega (arith, mul-le-mul_right (2 ^ 32 - 1) q)
    joins a (refused why p) h = tt

    from_first : (n at : ℕ) (u : Unsigned) → read_unsigned strict 32 s at ≡ u → OfList Long (with_first strict s n at u)
    unfolding with_first
    from_first n at (Ok (a, past)) e =
        let rest = records (step_at strict s) (length s) n past a in
        of_cond (OfList Long) (leb a last) (joined a rest) (refused Space at) (joins a rest (pairs_most (length s) n past a (unsigned_value strict 32 s at a past e).2)) tt
    from_first n at (Err x) e = tt

    from_count : (u : Unsigned) → OfList Long (with_count strict s u)
    unfolding with_count
    from_count (Ok (n, next)) = from_first n next (read_unsigned strict 32 s next) refl
    from_count (Err e) = tt

    most : OfList Long (parse strict s)
    unfolding parse
    most =
        of_cond (OfList Long) (starts_with identifier s) (with_count strict s (read_unsigned strict 32 s (length identifier))) (refused Identifier 0) (from_count (read_unsigned strict 32 s (length identifier))) tt

    places : Bytes s → OfOutcome (AtMost input_limit) (parse strict s)
    places bytes =
        of_parse (AtMost input_limit) strict s (omega arith) (λ at. of_unsigned (AtMost input_limit) (read_unsigned strict 32 s at) (λ why p e. omega (arith, unsigned_place strict 32 s at (omega arith) bytes e)))
        (λ at v next e. omega (arith, unsigned_value strict 32 s at v next e)) (λ at k. omega arith)

  pub decode_bounded : Bytes s → Bounded input_limit (1 + input_limit / 2 * (2 ^ 32 - 1)) (decode strict s)
  unfolding decode
  decode_bounded bytes =
      record {
        place = of_limited (AtMost input_limit) input_limit (length s) (parse strict s) (omega arith) (λ h. places h bytes);
        long = list_limited (λ (l : List ℕ). length l ≤ 1 + input_limit / 2 * (2 ^ 32 - 1)) input_limit (length s) (parse strict s) most;
      }

-- ---- what is written
-- a list is refused at an index of it
checked_index : (i lo : ℕ) (l : List ℕ) (o : Outcome (List ℕ)) → i + length l ≤ list_limit → OfOutcome (AtMost list_limit) o → OfOutcome (AtMost list_limit) (checked i lo l o)
unfolding checked
checked_index i lo [] o h k = k
checked_index i lo (x ∷ l) o h k =
    let rest = checked (suc i) (suc x) l o in
    of_cond (OfOutcome (AtMost list_limit)) (ltb last x) (refused Space i) (cond (ltb x lo) (refused Order i) rest) (omega arith)
    (of_cond (OfOutcome (AtMost list_limit)) (ltb x lo) (refused Order i) rest (omega arith) (checked_index (suc i) (suc x) l o (omega arith) k))

module _ (l : List ℕ) where
  index : (m : List ℕ) → length m ≤ list_limit → OfOutcome (AtMost list_limit) (build m)
  unfolding build
  index [] h = omega arith
  index (a ∷ m) h = checked_index 0 0 (a ∷ m) (accepted _) (omega arith) tt

  indexes : OfOutcome (AtMost list_limit) (encode l)
  unfolding encode
  indexes = of_limited (AtMost list_limit) list_limit (length l) (build l) (omega arith) (index l)

  pub encode_bounded : Bounded list_limit (4 + 10 * list_limit) (encode l)
  encode_bounded =
      record {
        place = indexes;
        long = list_of (λ (b : List ℕ). length b ≤ 4 + 10 * list_limit) (encode l) (λ b e. rw (encode_is l e) (omega (arith, table_most l (encode_legal l e), (encode_legal l e).few)));
      }
