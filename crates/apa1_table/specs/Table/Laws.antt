-- The cases of the format's definitions, as equations.
-- Assumes nothing.
use Rattle.std.specs.Prelude.{ℕ, ◌+◌, ◌^◌, ◌≤◌, ◌<◌, ◌≡◌, Bool, true, false, List, ◌∷◌, ◌++◌, map, ℤ, pos, negsuc, ◌+ℤ◌, ◌-ℤ◌, length, drop, get_or}
use Rattle.std.proofs.Math.Path.{refl, sym}
use Rattle.std.proofs.Common.{◌∙◌, arith, length-append}
use Rattle.std.specs.Int.Signed.{mag}
use Rattle.std.proofs.lemmas.List.{length-map}
use Rattle.answer.specs.declared.Refusal.{Refusal}
use Rattle.answer.specs.declared.Refusal.TheVariants.{Limit, Identifier, Width}
use Rattle.answer.specs.Outcome.{accepted, refused, input_limit, list_limit, after, err_at}
use Rattle.answer.specs.Outcome.Laws.{limited_over, limited_in, limited_accepted}
use Rattle.leb128.specs.Number.{read_signed, short_signed, is_neg, Signed, ok_at}
use Rattle.leb128.proofs.RoundTrip.{signed_bytes}
use Rattle.records.specs.Columns.Laws.{from, map_from, zipped_from, zipped_length}
use Rattle.records.specs.Identifier.{starts_with}
use Rattle.records.specs.Reading.{one, none, counted}
use Rattle.records.specs.Reading.Laws.{counted_not}
use Rattle.records.specs.Writing.{puts}
use Rattle.wrap.specs.Wrap.{residue, wrapped}
use Rattle.wrap.specs.Wrap.Laws.{wrapped_range}
use Rattle.apa1_table.specs.Table.{Row, row, start, identifier, second_of, first_of, step_at, plain, count_of, head_at, parse, decode, rows, entry_bytes, put_of, behind, head_of, build, encode}

-- ---- a record
module _ (strict : Bool) (s : List ℕ) (at : ℕ) (prev : Row) where
  pub step_not : {why : Refusal} {p : ℕ} → read_signed strict 64 s at ≡ err_at why p → step_at strict s at prev ≡ none why p
  unfolding step_at first_of
  step_not e = rw e

  module _ {d : ℤ} {next : ℕ} (e : read_signed strict 64 s at ≡ ok_at d next) where
    pub step_not_2 : {why : Refusal} {p : ℕ} → read_signed strict 64 s next ≡ err_at why p → step_at strict s at prev ≡ none why p
    unfolding step_at first_of second_of
    step_not_2 f = rw (e, f)

    pub step_is : {a : ℤ} {past : ℕ} {x : Row} → read_signed strict 64 s next ≡ ok_at a past
        → x ≡ row (residue 64 (pos prev.offset +ℤ d)) (wrapped 64 (prev.addend +ℤ a)) → step_at strict s at prev ≡ one x past x
    unfolding step_at first_of second_of
    step_is f g = rw (e, f, g)

-- ---- the identifier and the count
module _ (strict : Bool) (s : List ℕ) where
  pub head_other : starts_with identifier s ≡ false → head_at strict s ≡ err_at Identifier 0
  unfolding head_at
  head_other e = rw e

  module _ (e : starts_with identifier s ≡ true) where
    pub head_not : {why : Refusal} {p : ℕ} → read_signed false 64 s (length identifier) ≡ err_at why p → head_at strict s ≡ err_at why p
    unfolding head_at count_of
    head_not f = rw (e, f)

    pub head_is : {z : ℤ} {first : ℕ} → read_signed false 64 s (length identifier) ≡ ok_at z first → head_at strict s ≡ count_of (ok_at z first) (read_signed strict 64 s (length identifier))
    unfolding head_at
    head_is f = rw (e, f)

pub count_negative : (z : ℤ) (first : ℕ) (u : Signed) → is_neg z ≡ true → count_of (ok_at z first) u ≡ err_at Width (length identifier)
unfolding count_of
count_negative (pos n) first u e = let o : ◌≡◌ {A = ℕ} 0 1 = cc in absurd (omega arith)
count_negative (negsuc n) first u e = refl

pub count_other : (z : ℤ) (first : ℕ) (u : Signed) → is_neg z ≡ false → count_of (ok_at z first) u ≡ plain u
unfolding count_of
count_other (pos n) first u e = refl
count_other (negsuc n) first u e = let o : ◌≡◌ {A = ℕ} 0 1 = cc in absurd (omega arith)

pub plain_is : (z : ℤ) (first : ℕ) → plain (ok_at z first) ≡ ok_at (mag z) first
unfolding plain
plain_is z first = refl

pub plain_not : {u : Signed} {why : Refusal} {p : ℕ} → u ≡ err_at why p → plain u ≡ err_at why p
unfolding plain
plain_not e = rw e

-- ---- the whole
module _ (strict : Bool) (s : List ℕ) where
  pub parse_is : parse strict s ≡ counted (step_at strict s) (length s) start (head_at strict s)
  unfolding parse
  parse_is = refl

  pub decode_over : input_limit < length s → decode strict s ≡ refused Limit 0
  unfolding decode
  decode_over h = limited_over input_limit (length s) (parse strict s) h

  pub decode_in : length s ≤ input_limit → decode strict s ≡ parse strict s
  unfolding decode
  decode_in h = limited_in input_limit (length s) (parse strict s) h

  pub decode_accepted : {l : List Row} → decode strict s ≡ accepted l → (length s ≤ input_limit) × (parse strict s ≡ accepted l)
  unfolding decode
  decode_accepted e = limited_accepted input_limit (length s) (parse strict s) e

  -- a negative count is refusal 5 at its first byte
  pub decode_negative : {n next : ℕ} → length s ≤ input_limit → starts_with identifier s ≡ true → read_signed false 64 s (length identifier) ≡ ok_at (negsuc n) next
      → decode strict s ≡ refused Width (length identifier)
  decode_negative {n} {next} h i e =
      decode_in h ∙ parse_is ∙ counted_not (step_at strict s) (length s) start (head_is strict s i e ∙ count_negative (negsuc n) next _ refl)

-- ---- the records of columns
module _ (os : List ℕ) (us : List ℤ) (same : length os ≡ length us) where
  pub rows_length : length (rows os us) ≡ length os
  unfolding rows
  rows_length = zipped_length (map row os) us (length-map os row ∙ same) ∙ sym same

  pub rows_from_law : (i : ℕ) → i < length os → drop i (rows os us) ≡ row (get_or os i 0) (get_or us i (pos 0)) ∷ drop (i + 1) (rows os us)
  unfolding rows
  rows_from_law i h = zipped_from (map row os) us i (map_from row os i (from os i 0 h)) (from us i (pos 0) (omega arith))

-- ---- the bytes
module _ (l : List Row) where
  pub build_is : build l ≡ after (head_of (length l)) (puts put_of behind 0 start l)
  unfolding build
  build_is = refl

  pub encode_over : list_limit < length l → encode l ≡ refused Limit 0
  unfolding encode
  encode_over h = limited_over list_limit (length l) (build l) h

  pub encode_in : length l ≤ list_limit → encode l ≡ build l
  unfolding encode
  encode_in h = limited_in list_limit (length l) (build l) h

  pub encode_accepted : {b : List ℕ} → encode l ≡ accepted b → (length l ≤ list_limit) × (build l ≡ accepted b)
  unfolding encode
  encode_accepted e = limited_accepted list_limit (length l) (build l) e

pub head_bytes : (n : ℕ) → head_of n ≡ identifier ++ short_signed (pos n)
unfolding head_of
head_bytes n = refl

pub entry_bytes_law : (prev x : Row) → entry_bytes prev x ≡ short_signed (wrapped 64 (pos x.offset -ℤ pos prev.offset)) ++ short_signed (wrapped 64 (x.addend -ℤ prev.addend))
unfolding entry_bytes
entry_bytes_law prev x = refl

pub entry_most : (prev x : Row) → length (entry_bytes prev x) ≤ 20
entry_most prev x =
    let d = wrapped 64 (pos x.offset -ℤ pos prev.offset) in
    let a = wrapped 64 (x.addend -ℤ prev.addend) in
    rw (entry_bytes_law prev x) (omega (arith, length-append (short_signed d) (short_signed a), signed_bytes 64 d (omega arith) (wrapped_range 64 (omega arith) _), signed_bytes 64 a (omega arith) (wrapped_range 64 (omega arith) _)))

pub head_most : (n : ℕ) → n < 2 ^ 63 → length (head_of n) ≤ 14
head_most n h = rw (head_bytes n) (omega (arith, length-append identifier (short_signed (pos n)), signed_bytes 64 (pos n) (omega arith) h))
