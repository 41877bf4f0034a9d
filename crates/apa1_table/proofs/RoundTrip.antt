-- Which lists the writer accepts; that its table is within the input's limit; and that it decodes to the list.
-- Assumes nothing.
use Prim.Native.Nat.{ℕ, ◌+◌, ◌*◌, ◌^◌, ◌≤◌, ◌<◌}
use mathlib.Core.Path.{◌≡◌, refl, ap, ap₂, sym, ◌∙◌}
use mathlib.Core.Bool.{Bool, true, false}
use mathlib.Core.List.{List, [], ◌∷◌, ◌++◌, map, append_assoc}
use native.Mathlib.Omega.{arith}
use lib.IntN.{ℤ, pos, ◌+ℤ◌, ◌-ℤ◌}
use lib.ListN.{length, get_or, length-append}
use lib.Signed.{mag}
use Rattle.answer.proofs.Limits.{list_most, list_small}
use Rattle.answer.specs.Outcome.{accepted, input_limit, list_limit}
use Rattle.answer.specs.Outcome.Laws.{Accepts}
use Rattle.answer.specs.Outcome.Laws as Outcome
use Rattle.leb128.specs.Number.{read_signed, short_signed, ok_at}
use Rattle.records.specs.Columns.{Each}
use Rattle.records.specs.Columns.Laws.{At, each_of, column_of}
use Rattle.records.specs.Identifier.{starts_with}
use Rattle.records.specs.Identifier.Laws.{starts_same}
use Rattle.records.specs.Reading.{one}
use Rattle.records.specs.Reading.Laws.{counted_records}
use Rattle.records.specs.Writing.{bytes, puts}
use Rattle.records.proofs.Writing.{after_accepted}
use Rattle.records.proofs.RoundTrip.{puts_accepted, puts_most, signed_here, back}
use Rattle.wrap.specs.Wrap.{residue, wrapped}
use Rattle.wrap.specs.Wrap.Laws.{wrapped_range, back_residue, back_wrapped, residue_small}
use Rattle.apa1_table.specs.Table.{Row, row, start, identifier, step_at, plain, head_at, parse, decode, rows, entry_bytes, put_of, behind, head_of, build, encode}
use Rattle.apa1_table.specs.Table.Laws.{step_is, head_is, count_other, plain_is, parse_is, decode_in, rows_length, rows_from_law, build_is, encode_in, encode_accepted, head_bytes, entry_bytes_law, entry_most, head_most}
use Rattle.apa1_table.specs.Contract.{offset_of, addend_of}

-- ---- every list has a table
-- nothing is asked of a record
any : (l : List Row) → Each (λ (x : Row). Unit {0}) l
any [] = tt
any (x ∷ l) = (tt, any l)

build_accepts : (l : List Row) → Accepts (build l)
build_accepts l =
    let b = puts_accepted put_of behind (λ (x : Row). Unit {0}) (λ st x h. (entry_bytes st x, refl)) l 0 start (any l) in
    record { list = head_of (length l) ++ b.list; is = build_is l ∙ after_accepted (head_of (length l)) b.is }

-- ---- a table has at most 14 bytes, and 20 for each record
build_most : (l : List Row) {b : List ℕ} → length l < 2 ^ 63 → build l ≡ accepted b → length b ≤ 14 + 20 * length l
build_most l {b} h e =
    let c = Outcome.behind (head_of (length l)) (puts put_of behind 0 start l) (sym (build_is l) ∙ e) in
    let m = puts_most put_of behind (λ (x : Row). Unit {0}) 20 few l 0 start (any l) c.is in
    omega (arith, ap length c.whole, length-append (head_of (length l)) c.rest, head_most (length l) h)
  where
    few : (st x : Row) (b : List ℕ) → Unit {0} → put_of st x ≡ bytes b → length b ≤ 20
    few st x b u e = let f : entry_bytes st x ≡ b = cc in rw (← f) (entry_most st x)

-- ---- what the columns hold: an offset of 64 bits, and an addend of a sign and 63
abbrev pub Fine : Row → Type 0
Fine x = (x.offset < 2 ^ 64) × (mag x.addend < 2 ^ 63)

-- a record's bytes read back as that record, wherever they stand
record_back : (strict : Bool) (pre post b : List ℕ) (prev x : Row) → Unit {0} → Fine x → put_of prev x ≡ bytes b
    → (step_at strict (pre ++ (b ++ post)) (length pre) prev ≡ one x (length pre + length b) x) × Unit {0}
record_back strict pre post b prev x g f e =
    let d = wrapped 64 (pos x.offset -ℤ pos prev.offset) in
    let a = wrapped 64 (x.addend -ℤ prev.addend) in
    let w : 0 < 64 = omega arith in
    let k : b ≡ short_signed d ++ short_signed a = (let q : entry_bytes prev x ≡ b = cc in sym q ∙ entry_bytes_law prev x) in
    let s = pre ++ (b ++ post) in
    let p : s ≡ pre ++ (short_signed d ++ (short_signed a ++ post)) = ap (λ (m : List ℕ). pre ++ (m ++ post)) k ∙ ap (λ (m : List ℕ). pre ++ m) (append_assoc (short_signed d) (short_signed a) post) in
    let q : s ≡ (pre ++ short_signed d) ++ (short_signed a ++ post) = p ∙ sym (append_assoc pre (short_signed d) (short_signed a ++ post)) in
    let r = signed_here strict 64 s pre (short_signed a ++ post) (length pre) w refl d (wrapped_range 64 w _) p in
    let t = signed_here strict 64 s (pre ++ short_signed d) post (length (pre ++ short_signed d)) w refl a (wrapped_range 64 w _) q in
    let u : x ≡ row (residue 64 (pos prev.offset +ℤ d)) (wrapped 64 (prev.addend +ℤ a)) =
    ap₂ row (sym (back_residue 64 w (pos prev.offset) (pos x.offset) ∙ residue_small 64 x.offset f.0)) (sym (back_wrapped 64 w prev.addend x.addend f.1)) in
    let v : length ((pre ++ short_signed d) ++ short_signed a) ≡ length pre + length b =
    omega (arith, length-append (pre ++ short_signed d) (short_signed a), length-append pre (short_signed d), ap length k, length-append (short_signed d) (short_signed a)) in
    (step_is strict s (length pre) prev r t u ∙ ap (λ (n : ℕ). one x n x) v, tt)

-- the whole table
parse_build : (strict : Bool) (l : List Row) {b : List ℕ} → length l < 2 ^ 63 → Each Fine l → build l ≡ accepted b → parse strict b ≡ accepted l
parse_build strict l {b} few fine e =
    let c = Outcome.behind (head_of (length l)) (puts put_of behind 0 start l) (sym (build_is l) ∙ e) in
    let n = short_signed (pos (length l)) in
    let p : b ≡ identifier ++ (n ++ c.rest) = c.whole ∙ ap (λ (m : List ℕ). m ++ c.rest) (head_bytes (length l)) ∙ append_assoc identifier n c.rest in
    let i : starts_with identifier b ≡ true = ap (starts_with identifier) p ∙ starts_same identifier (n ++ c.rest) in
    let r : (strict : Bool) → read_signed strict 64 b 4 ≡ ok_at (pos (length l)) (length (head_of (length l))) =
    (λ strict. signed_here strict 64 b identifier c.rest 4 (omega arith) refl (pos (length l)) few p ∙ ap (λ (m : List ℕ). ok_at (pos (length l)) (length m)) (sym (head_bytes (length l)))) in
    let h : head_at strict b ≡ ok_at (length l) (length (head_of (length l))) =
    head_is strict b i (r false) ∙ count_other (pos (length l)) _ _ refl ∙ ap plain (r _) ∙ plain_is (pos (length l)) _ in
    parse_is strict b ∙ counted_records (step_at strict b) (length b) start h ∙
    rw c.whole (back (step_at strict) put_of behind (λ (x : Row). Unit {0}) Fine (record_back strict) l 0 start (head_of (length l)) tt fine c.is)

-- ---- a list is written exactly where it is within its limit
pub encode_accepts : (l : List Row) → length l ≤ list_limit → Accepts (encode l)
encode_accepts l h = let a = build_accepts l in record { list = a.list; is = encode_in l h ∙ a.is }

pub encode_legal : (l : List Row) {b : List ℕ} → encode l ≡ accepted b → length l ≤ list_limit
encode_legal l e = (encode_accepted l e).0

-- its table has so many bytes
pub encode_most : (l : List Row) {b : List ℕ} → encode l ≡ accepted b → length b ≤ 14 + 20 * length l
encode_most l e = let (h, f) = encode_accepted l e in build_most l (omega (arith, list_small)) f

-- and is within the input's limit
pub encode_fits : (l : List Row) {b : List ℕ} → encode l ≡ accepted b → length b ≤ input_limit
encode_fits l e = omega (arith, encode_most l e, encode_legal l e, list_most)

-- the round trip: it decodes to the list
pub decode_encode : (strict : Bool) (l : List Row) {b : List ℕ} → encode l ≡ accepted b → Each Fine l → decode strict b ≡ accepted l
decode_encode strict l {b} e f = let (h, g) = encode_accepted l e in decode_in strict b (encode_fits l e) ∙ parse_build strict l (omega (arith, list_small)) f g

-- ---- the records of two columns
module _ (os : List ℕ) (us : List ℤ) (same : length os ≡ length us) where
  -- the record at an index
  at : (P : Row → Type 0) (i : ℕ) → i < length (rows os us) → P (row (get_or os i 0) (get_or us i (pos 0))) → At (rows os us) P i
  at P i h p = record { one = row (get_or os i 0) (get_or us i (pos 0)); here = rows_from_law os us same i (omega (arith, rows_length os us same)); is = p }

  pub rows_fine : ((i : ℕ) → i < length os → Fine (row (get_or os i 0) (get_or us i (pos 0)))) → Each Fine (rows os us)
  rows_fine f = each_of Fine (rows os us) (λ i h. at Fine i h (f i (omega (arith, rows_length os us same))))

  -- they have these columns
  pub rows_offsets : map offset_of (rows os us) ≡ os
  rows_offsets = column_of offset_of (rows os us) os 0 (rows_length os us same) (λ i h. at (λ (x : Row). offset_of x ≡ get_or os i 0) i h refl)

  pub rows_addends : map addend_of (rows os us) ≡ us
  rows_addends = column_of addend_of (rows os us) us (pos 0) (rows_length os us same ∙ same) (λ i h. at (λ (x : Row). addend_of x ≡ get_or us i (pos 0)) i h refl)
