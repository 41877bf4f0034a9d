-- How large the place of a refusal can be, and how long a list that is read and a table that is written.
-- Assumes nothing.
use Prim.Native.Nat.{ℕ, ◌-◌, suc, ◌+◌, ◌*◌, ◌/◌, ◌%◌, ◌≤◌, ◌<◌}
use mathlib.Core.Path.{◌≡◌, ap}
use mathlib.Core.List.{List, [], ◌∷◌}
use mathlib.Core.Bool.{Bool, cond}
use lib.Dec.{eqb, ltb}
use lib.ListN.{length, length-append}
use native.Mathlib.Nat.{mul-le-mul_left, mul-le-mul_right}
use native.Mathlib.Omega.{arith}
use Rattle.answer.proofs.Limits.{list_most}
use Rattle.answer.specs.declared.Refusal.TheVariants.{Missing, Order, Space, Odd, Outside, Base}
use Rattle.answer.specs.Outcome.{Outcome, accepted, refused, input_limit, list_limit}
use Rattle.answer.specs.Said.{OfOutcome, OfList, AtMost, Bounded, of_map, of_cond, of_limited, of_after, list_of, list_map, list_limited, list_after}
use Rattle.answer.specs.Outcome.Laws.{limited_accepted}
use Rattle.word.specs.declared.Class.{Class}
use Rattle.word.specs.Class.{bytes_of, window_of}
use Rattle.word.specs.Class.Laws.{bytes_least, by_bytes}
use Rattle.word.specs.Word.{words_of}
use Rattle.word.specs.Word.Laws.{words_first, words_length}
use Rattle.relr_table.specs.Words.{Where, nowhere, read}
use Rattle.relr_table.specs.Table.{space_of, parse, decode, table_bytes, checked, build, encode, leading, inside, contained, above, targets}
use Rattle.relr_table.proofs.Refusals.{each_word}
use Rattle.relr_table.proofs.Leading.{leading_le}
use Rattle.relr_table.proofs.RoundTrip.{encode_is, encode_legal, table_most}

-- ---- what is read
module _ (c n top : ℕ) (some : 0 < n) where
  -- words give at most n offsets each, wherever they stand and whatever stands before them
  pub words_most : (t : List ℕ) (i : ℕ) (w : Where) → OfList (λ (l : List ℕ). length l ≤ length t * n) (read c n top t i w)
  words_most =
      each_word c n top some (λ (m i : ℕ) (o : Outcome (List ℕ)). OfList (λ (l : List ℕ). length l ≤ m * n) o) (λ i. omega arith) (λ m i. tt) (λ m i. tt)
      (λ m i xs o h k. list_after (λ (l : List ℕ). length l ≤ m * n) (λ (l : List ℕ). length l ≤ suc m * n) xs o (λ l q. omega (arith, length-append xs l)) k)

  -- and are refused at the byte of a word
  words_place : (t : List ℕ) (i : ℕ) (w : Where) → OfOutcome (AtMost (i + length t * c)) (read c n top t i w)
  words_place =
      each_word c n top some (λ (m i : ℕ) (o : Outcome (List ℕ)). OfOutcome (AtMost (i + m * c)) o) (λ i. tt) (λ m i. omega arith) (λ m i. omega arith)
      (λ m i xs o h k. of_after (AtMost (i + suc m * c)) xs o (of_map (AtMost (i + c + m * c)) (AtMost (i + suc m * c)) o (λ why p q. omega arith) k))

module _ (k : Class) where
  some : 0 < window_of k
  some = omega (arith, bytes_least k)

  -- the words of a table
  table_words : (s : List ℕ) → length (words_of k s) ≡ length s / bytes_of k
  table_words s = rw words_first (words_length k (length s / bytes_of k) s)

  -- the most offsets of a table
  abbrev most : ℕ
  most = input_limit / bytes_of k * window_of k

  words_few : (a b : ℕ) → a ≤ b → a / bytes_of k ≤ b / bytes_of k
  words_few = by_bytes (λ (n : ℕ). (a b : ℕ) → a ≤ b → a / n ≤ b / n) (λ a b h. omega arith) (λ a b h. omega arith) k

  words_long : (a : ℕ) → a / bytes_of k * bytes_of k ≤ a
  words_long = by_bytes (λ (n : ℕ). (a : ℕ) → a / n * n ≤ a) (λ a. omega arith) (λ a. omega arith) k

  module _ (s : List ℕ) (h : length s ≤ input_limit) where
    long : OfList (λ (l : List ℕ). length l ≤ most) (parse k s)
    unfolding parse
    long =
        let words = read (bytes_of k) (window_of k) (space_of k) (words_of k s) 0 nowhere in
        of_cond (OfList (λ (l : List ℕ). length l ≤ most)) (eqb (length s % bytes_of k) 0) words (refused Missing (length s))
        (list_map (λ (l : List ℕ). length l ≤ length (words_of k s) * window_of k) (λ (l : List ℕ). length l ≤ most) words
        (λ l q. omega (arith, ap (λ (m : ℕ). m * window_of k) (table_words s), mul-le-mul_right (window_of k) (words_few (length s) input_limit h)))
        (words_most (bytes_of k) (window_of k) (space_of k) some (words_of k s) 0 nowhere))
        tt

    place : OfOutcome (AtMost input_limit) (parse k s)
    unfolding parse
    place =
        let words = read (bytes_of k) (window_of k) (space_of k) (words_of k s) 0 nowhere in
        of_cond (OfOutcome (AtMost input_limit)) (eqb (length s % bytes_of k) 0) words (refused Missing (length s))
        (of_map (AtMost (0 + length (words_of k s) * bytes_of k)) (AtMost input_limit) words
        (λ why p q. omega (arith, ap (λ (m : ℕ). m * bytes_of k) (table_words s), words_long (length s)))
        (words_place (bytes_of k) (window_of k) (space_of k) some (words_of k s) 0 nowhere))
        h

  pub decode_bounded : (s : List ℕ) → Bounded input_limit most (decode k s)
  unfolding decode
  decode_bounded s =
      record {
        place = of_limited (AtMost input_limit) input_limit (length s) (parse k s) (omega arith) (place s);
        long = list_limited (λ (l : List ℕ). length l ≤ most) input_limit (length s) (parse k s) (long s);
      }

  -- ---- where a table is applied
  -- a place of the input is no larger than an index of a list
  input_few : input_limit ≤ most
  input_few = by_bytes (λ (n : ℕ). input_limit ≤ input_limit / n * (8 * n - 1)) (omega (arith, list_most)) (omega (arith, list_most)) k

  contained_place : (test : ℕ → Bool) (o : Outcome (List ℕ)) → Bounded input_limit most o → OfOutcome (AtMost most) (contained test o)
  unfolding contained
  contained_place test (accepted l) b =
      of_cond (OfOutcome (AtMost most)) (eqb (leading test l) (length l)) (accepted l) (refused Outside (leading test l)) tt (omega (arith, leading_le test l, b.long))
  contained_place test (refused why p) b = omega (arith, b.place, input_few)

  contained_long : (test : ℕ → Bool) (o : Outcome (List ℕ)) → Bounded input_limit most o → OfList (λ (l : List ℕ). length l ≤ most) (contained test o)
  unfolding contained
  contained_long test (accepted l) b =
      of_cond (OfList (λ (m : List ℕ). length m ≤ most)) (eqb (leading test l) (length l)) (accepted l) (refused Outside (leading test l)) b.long tt
  contained_long test (refused why p) b = tt

  pub targets_bounded : (s : List ℕ) (base start size : ℕ) → Bounded most most (targets k s base start size)
  unfolding targets
  targets_bounded s base start size =
      let o = contained (inside k start size) (decode k s) in
      record {
        place = of_cond (OfOutcome (AtMost most)) (above k base) (refused Base 0) o (omega arith) (contained_place (inside k start size) (decode k s) (decode_bounded s));
        long = of_cond (OfList (λ (l : List ℕ). length l ≤ most)) (above k base) (refused Base 0) o tt (contained_long (inside k start size) (decode k s) (decode_bounded s));
      }

-- ---- what is written
-- a list is refused at an index of it
checked_index : (c top i lo : ℕ) (l : List ℕ) (o : Outcome (List ℕ)) → i + length l ≤ list_limit → OfOutcome (AtMost list_limit) o → OfOutcome (AtMost list_limit) (checked c top i lo l o)
unfolding checked
checked_index c top i lo [] o h k = k
checked_index c top i lo (x ∷ l) o h k =
    let rest = checked c top (suc i) (suc x) l o in
    let order = cond (ltb x lo) (refused Order i) rest in
    let space = cond (ltb top (x + c)) (refused Space i) order in
    of_cond (OfOutcome (AtMost list_limit)) (eqb (x % 2) 1) (refused Odd i) space (omega arith)
    (of_cond (OfOutcome (AtMost list_limit)) (ltb top (x + c)) (refused Space i) order (omega arith)
    (of_cond (OfOutcome (AtMost list_limit)) (ltb x lo) (refused Order i) rest (omega arith) (checked_index c top (suc i) (suc x) l o (omega arith) k)))

module _ (k : Class) (l : List ℕ) where
  indexes : OfOutcome (AtMost list_limit) (encode k l)
  unfolding encode build
  indexes =
      of_limited (AtMost list_limit) list_limit (length l) (build k l) (omega arith)
      (λ h. checked_index (bytes_of k) (space_of k) 0 0 l (accepted (table_bytes k l)) (omega arith) tt)

  few : {b : List ℕ} → encode k l ≡ accepted b → length l ≤ list_limit
  unfolding encode
  few e = (limited_accepted list_limit (length l) (build k l) e).0

  pub encode_bounded : Bounded list_limit (bytes_of k * list_limit) (encode k l)
  encode_bounded =
      record {
        place = indexes;
        long = list_of (λ (b : List ℕ). length b ≤ bytes_of k * list_limit) (encode k l)
            (λ b e. rw (encode_is k l e) (omega (arith, table_most k l (encode_legal k l e), mul-le-mul_left (bytes_of k) (few e))));
      }
