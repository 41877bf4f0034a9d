-- Which lists the writer accepts; that its table is within the input's limit; and that it decodes to the list. All of it over the width W.
-- Assumes nothing.
use Prim.Native.Nat.{ℕ, ◌+◌, ◌*◌, ◌-◌, ◌%◌, ◌^◌, ◌≤◌, ◌<◌}
use mathlib.Core.Path.{◌≡◌, refl, ap, sym, ◌∙◌}
use mathlib.Core.Bool.{Bool, true, false, cond}
use mathlib.Core.List.{List, [], ◌++◌, map, append_assoc, append-nil}
use native.Mathlib.Omega.{arith}
use lib.Dec.{ltb}
use lib.IntN.{ℤ, pos, negsuc, ◌+ℤ◌, ◌-ℤ◌}
use lib.ListN.{length, get_or, length-append}
use lib.Pow.{pow_pos}
use lib.Signed.{mag}
use borrow.Author.Tests.{lt-ltb, ltb-true}
use Rattle.answer.proofs.Limits.{list_most, list_small}
use Rattle.answer.specs.Outcome.{accepted, input_limit, list_limit}
use Rattle.answer.specs.Outcome.Laws.{Accepts}
use Rattle.answer.specs.Outcome.Laws as Outcome
use Rattle.leb128.specs.Number.{IsWidth, read_unsigned, read_signed, short_unsigned, is_neg, short_signed}
use Rattle.leb128.proofs.RoundTrip.{unsigned_bytes, signed_bytes}
use Rattle.records.specs.Columns.{Each}
use Rattle.records.specs.Columns.Laws.{At, each_of, column_of}
use Rattle.records.specs.Reading.{one}
use Rattle.records.specs.Reading.Laws.{counted_records}
use Rattle.records.specs.Writing.{bytes, puts}
use Rattle.records.proofs.Writing.{after_accepted}
use Rattle.records.proofs.RoundTrip.{puts_accepted, puts_legal, puts_most, signed_here, unsigned_here, back}
use Rattle.wrap.specs.Wrap.{residue, wrapped, same}
use Rattle.wrap.specs.Wrap.Laws.{residue_lt, residue_small, wrapped_range, back_residue, back_wrapped, back_unsigned, same_true}
use Rattle.relleb_table.specs.Table.{Row, row, State, state, start, behind, no_change, with_symbol, step_at, parse, decode, rows, field_of, change_bytes, entry_bytes, put_of, build, encode, InWidth}
use Rattle.relleb_table.specs.Table.Laws.{change_taken, addend_is, symbol_same, symbol_other, type_is, offset_is, step_is, parse_is, decode_in, rows_from_law, put_space, put_addend, put_bytes, entry_is, field_is, field_bytes_law, build_is, encode_in, encode_accepted}
use Rattle.relleb_table.specs.Contract.{offset_of, type_of, symbol_of, addend_of, Same}
use Rattle.relleb_table.specs.Contract.Laws.{many}
use Rattle.relleb_table.proofs.Changes.{entry_changes}
use Rattle.leb128.specs.Number.{ok_at}

module _ (W : ℕ) where
  pub put_is : (prev : State) (x : Row) → InWidth W x → put_of W prev x ≡ bytes (entry_bytes W prev x)
  put_is prev x l = put_bytes W prev x (lt-ltb x.offset (2 ^ W) l.0) (lt-ltb (mag x.addend) (2 ^ (W - 1)) l.1)

  put_legal : (prev : State) (x : Row) (b : List ℕ) → put_of W prev x ≡ bytes b → InWidth W x
  put_legal prev x b e = go (ltb x.offset (2 ^ W)) refl (ltb (mag x.addend) (2 ^ (W - 1))) refl
    where
      go : (t : Bool) → ltb x.offset (2 ^ W) ≡ t → (u : Bool) → ltb (mag x.addend) (2 ^ (W - 1)) ≡ u → InWidth W x
      go true h true k = (ltb-true x.offset (2 ^ W) h, ltb-true (mag x.addend) (2 ^ (W - 1)) k)
      go true h false k = let q = sym (put_addend W prev x h k) ∙ e in let z : ◌≡◌ {A = ℕ} 0 1 = cc in absurd (omega arith)
      go false h u k = let q = sym (put_space W prev x h) ∙ e in let z : ◌≡◌ {A = ℕ} 0 1 = cc in absurd (omega arith)

  -- a list has a table exactly where each of its records is legal
  build_accepts : (l : List Row) → Each (InWidth W) l → Accepts (build W l)
  build_accepts l h =
      let b = puts_accepted (put_of W) behind (InWidth W) (λ st x f. (entry_bytes W st x, put_is st x f)) l 0 start h in
      record { list = short_unsigned (length l) ++ b.list; is = build_is W l ∙ after_accepted (short_unsigned (length l)) b.is }

  pub build_legal : (l : List Row) {b : List ℕ} → build W l ≡ accepted b → Each (InWidth W) l
  build_legal l e =
      let c = Outcome.behind (short_unsigned (length l)) (puts (put_of W) behind 0 start l) (sym (build_is W l) ∙ e) in
      puts_legal (put_of W) behind (InWidth W) put_legal l 0 start c.is

-- ---- what the columns of types and of symbols hold
abbrev pub Fine : Row → Type 0
Fine x = (x.type < 2 ^ 32) × (x.symbol < 2 ^ 32)

field_mag : (base : ℤ) (x : Row) → mag (field_of base x) ≡ x.symbol
field_mag base x = ap mag (field_is base x) ∙ go (same x.addend base)
  where
    go : (t : Bool) → mag (cond t (pos x.symbol) (negsuc x.symbol)) ≡ x.symbol
    go true = refl
    go false = refl

change_most : (W : ℕ) (f a : ℤ) → 0 < W → W ≤ 64 → mag a < 2 ^ (W - 1) → length (change_bytes f a) ≤ 10
change_most W (pos y) a w h m = omega arith
change_most W (negsuc y) a w h m = omega (arith, signed_bytes W a w m)

module _ (W : ℕ) (wide : IsWidth W) where
  -- ---- a record takes at most 30 bytes
  entry_most : (prev : State) (x : Row) (b : List ℕ) → Fine x → put_of W prev x ≡ bytes b → length b ≤ 30
  entry_most prev x b f e =
      let d = residue W (pos x.offset -ℤ pos prev.offset) in
      let t = wrapped 32 (pos x.type -ℤ pos prev.type) in
      let y = field_of prev.addend x in
      let a = wrapped W (x.addend -ℤ prev.addend) in
      let k : entry_bytes W prev x ≡ b = (let q = sym (put_is W prev x (put_legal W prev x b e)) ∙ e in cc) in
      let n = ap length (sym k ∙ entry_is W prev x ∙ field_bytes_law d t y a) in
      let m : mag y < 2 ^ (33 - 1) = rw (field_mag prev.addend x) f.1 in
      omega (
        arith,
        n,
        length-append (short_unsigned d) (short_signed t ++ (short_signed y ++ change_bytes y a)),
        length-append (short_signed t) (short_signed y ++ change_bytes y a),
        length-append (short_signed y) (change_bytes y a),
        unsigned_bytes W d wide.0 (residue_lt W _),
        signed_bytes 32 t (omega arith) (wrapped_range 32 (omega arith) _),
        signed_bytes 33 y (omega arith) m,
        change_most W y a wide.0 wide.1 (wrapped_range W wide.0 _),
        wide.1,
      )

  -- a table has at most 10 bytes, and 30 for each record
  build_most : (l : List Row) {b : List ℕ} → length l < 2 ^ 64 → Each Fine l → build W l ≡ accepted b → length b ≤ 10 + 30 * length l
  build_most l {b} h f e =
      let c = Outcome.behind (short_unsigned (length l)) (puts (put_of W) behind 0 start l) (sym (build_is W l) ∙ e) in
      let m = puts_most (put_of W) behind Fine 30 entry_most l 0 start f c.is in
      omega (arith, ap length c.whole, length-append (short_unsigned (length l)) c.rest, unsigned_bytes 64 (length l) (omega arith) h)

-- the addend before a record has W bits
abbrev pub Ranged : ℕ → State → Type 0
Ranged W prev = mag prev.addend < 2 ^ (W - 1)

module _ (strict : Bool) (W : ℕ) (wide : IsWidth W) where
  -- ---- the symbol field, and the addend's difference if it stands there, which is then not 0
  symbol_back : (s pre post : List ℕ) (o t : ℕ) (base : ℤ) (x : Row) → x.symbol < 2 ^ 32 → mag x.addend < 2 ^ (W - 1)
      → (is_neg (field_of base x) ≡ true → wrapped W (x.addend -ℤ base) ≡ pos 0 → ⊥) → s ≡ pre ++ ((short_signed (field_of base x) ++ change_bytes (field_of base x) (wrapped W (x.addend -ℤ base))) ++ post)
      → with_symbol strict W s base o t (read_signed strict 33 s (length pre))
      ≡ one (row o t x.symbol x.addend) (length (pre ++ (short_signed (field_of base x) ++ change_bytes (field_of base x) (wrapped W (x.addend -ℤ base))))) (state o t x.addend)
  symbol_back s pre post o t base x h k changed e = go (same x.addend base) refl
    where
      a : ℤ
      a = wrapped W (x.addend -ℤ base)

      go : (b : Bool) → same x.addend base ≡ b
          → with_symbol strict W s base o t (read_signed strict 33 s (length pre))
          ≡ one (row o t x.symbol x.addend) (length (pre ++ (short_signed (field_of base x) ++ change_bytes (field_of base x) (wrapped W (x.addend -ℤ base))))) (state o t x.addend)
      go true q =
          let f : field_of base x ≡ pos x.symbol = field_is base x ∙ ap (λ (b : Bool). cond b (pos x.symbol) (negsuc x.symbol)) q in
          let n : short_signed (pos x.symbol) ++ [] ≡ short_signed (pos x.symbol) = append-nil (short_signed (pos x.symbol)) in
          let p : s ≡ pre ++ (short_signed (pos x.symbol) ++ post) = rw (f, n) at e in
          let r = signed_here strict 33 s pre post (length pre) (omega arith) refl (pos x.symbol) h p in
          rw (f, n, r, ← same_true x.addend base q) (symbol_same strict W s x.addend o t (pos x.symbol) _ refl)
      go false q =
          let f : field_of base x ≡ negsuc x.symbol = field_is base x ∙ ap (λ (b : Bool). cond b (pos x.symbol) (negsuc x.symbol)) q in
          let v = short_signed (negsuc x.symbol) in
          let u = short_signed (wrapped W (x.addend -ℤ base)) in
          let p : s ≡ pre ++ ((v ++ u) ++ post) = rw f at e in
          let p₁ : s ≡ pre ++ (v ++ (u ++ post)) = p ∙ ap (λ (m : List ℕ). pre ++ m) (append_assoc v u post) in
          let p₂ : s ≡ (pre ++ v) ++ (u ++ post) = p₁ ∙ sym (append_assoc pre v (u ++ post)) in
          let r = signed_here strict 33 s pre (u ++ post) (length pre) (omega arith) refl (negsuc x.symbol) h p₁ in
          let w = signed_here strict W s (pre ++ v) post (length (pre ++ v)) wide.0 refl (wrapped W (x.addend -ℤ base)) (wrapped_range W wide.0 _) p₂ in
          let c : no_change strict (wrapped W (x.addend -ℤ base)) ≡ false = change_taken strict _ (changed (ap is_neg f)) in
          let z = addend_is strict W (length (pre ++ v)) base o t x.symbol w c (sym (back_wrapped W wide.0 base x.addend k)) in
          rw (f, r, ← append_assoc pre v u) (symbol_other strict W s base o t (negsuc x.symbol) _ refl ∙ z)

  -- a record's bytes read back as that record, wherever they stand
  record_back : (pre post b : List ℕ) (prev : State) (x : Row) → Ranged W prev → Fine x → put_of W prev x ≡ bytes b
      → (step_at strict W (pre ++ (b ++ post)) (length pre) prev ≡ one x (length pre + length b) (behind prev x)) × Ranged W (behind prev x)
  record_back pre post b prev x g f e =
      let l = put_legal W prev x b e in
      let d = residue W (pos x.offset -ℤ pos prev.offset) in
      let t = wrapped 32 (pos x.type -ℤ pos prev.type) in
      let y = field_of prev.addend x in
      let a = wrapped W (x.addend -ℤ prev.addend) in
      let v = short_signed y ++ change_bytes y a in
      let k : b ≡ short_unsigned d ++ (short_signed t ++ v) = (let q = sym (put_is W prev x l) ∙ e in let k : entry_bytes W prev x ≡ b = cc in sym k ∙ entry_is W prev x ∙ field_bytes_law d t y a) in
      let s = pre ++ (b ++ post) in
      let p₁ : s ≡ pre ++ (short_unsigned d ++ ((short_signed t ++ v) ++ post)) = ap (λ (m : List ℕ). pre ++ (m ++ post)) k ∙ ap (λ (m : List ℕ). pre ++ m) (append_assoc (short_unsigned d) (short_signed t ++ v) post) in
      let p₂ : s ≡ (pre ++ short_unsigned d) ++ (short_signed t ++ (v ++ post)) =
      p₁ ∙ sym (append_assoc pre (short_unsigned d) ((short_signed t ++ v) ++ post)) ∙ ap (λ (m : List ℕ). (pre ++ short_unsigned d) ++ m) (append_assoc (short_signed t) v post) in
      let p₃ : s ≡ ((pre ++ short_unsigned d) ++ short_signed t) ++ (v ++ post) = p₂ ∙ sym (append_assoc (pre ++ short_unsigned d) (short_signed t) (v ++ post)) in
      let r₁ = unsigned_here strict W s pre ((short_signed t ++ v) ++ post) (length pre) wide.0 refl d (residue_lt W _) p₁ in
      let r₂ = signed_here strict 32 s (pre ++ short_unsigned d) (v ++ post) (length (pre ++ short_unsigned d)) (omega arith) refl t (wrapped_range 32 (omega arith) _) p₂ in
      let o : (prev.offset + d) % 2 ^ W ≡ x.offset = back_unsigned W prev.offset x.offset l.0 in
      let u : residue 32 (pos prev.type +ℤ t) ≡ x.type = back_residue 32 (omega arith) (pos prev.type) (pos x.type) ∙ residue_small 32 x.type f.0 in
      let z = symbol_back s ((pre ++ short_unsigned d) ++ short_signed t) post x.offset x.type prev.addend x f.1 l.1 (entry_changes W wide prev x g l) p₃ in
      let n : length (((pre ++ short_unsigned d) ++ short_signed t) ++ v) ≡ length pre + length b =
      omega (arith, length-append ((pre ++ short_unsigned d) ++ short_signed t) v, length-append (pre ++ short_unsigned d) (short_signed t), length-append pre (short_unsigned d), ap length k, length-append (short_unsigned d) (short_signed t ++ v), length-append (short_signed t) v) in
      (step_is strict W s (length pre) prev ∙ offset_is strict W s prev r₁ ∙ type_is strict W s prev ((prev.offset + d) % 2 ^ W) r₂ ∙ rw (o, u) z ∙ ap (λ (m : ℕ). one x m (behind prev x)) n, l.1)

  -- the whole table
  parse_build : (l : List Row) {b : List ℕ} → length l < 2 ^ 64 → Each Fine l → build W l ≡ accepted b → parse strict W b ≡ accepted l
  parse_build l {b} few fine e =
      let n = short_unsigned (length l) in
      let c = Outcome.behind n (puts (put_of W) behind 0 start l) (sym (build_is W l) ∙ e) in
      let h : (strict : Bool) → read_unsigned strict 64 b 0 ≡ ok_at (length l) (length n) = λ strict. unsigned_here strict 64 b [] c.rest 0 (omega arith) refl (length l) few c.whole in
      parse_is strict W b ∙ counted_records (step_at strict W b) (length b) start (h _) ∙
      rw c.whole (back (step_at strict W) (put_of W) behind (Ranged W) Fine record_back l 0 start n (pow_pos (W - 1)) fine c.is)

-- ---- a list is written exactly where it is within its limit and each of its records is legal
module _ (W : ℕ) (l : List Row) where
  pub encode_accepts : length l ≤ list_limit → Each (InWidth W) l → Accepts (encode W l)
  encode_accepts h f = let a = build_accepts W l f in record { list = a.list; is = encode_in W l h ∙ a.is }

  pub encode_legal : {b : List ℕ} → encode W l ≡ accepted b → (length l ≤ list_limit) × Each (InWidth W) l
  encode_legal e = let (h, f) = encode_accepted W l e in (h, build_legal W l f)

  module _ (wide : IsWidth W) {b : List ℕ} (e : encode W l ≡ accepted b) (fine : Each Fine l) where
    few : length l < 2 ^ 64
    few = omega (arith, (encode_accepted W l e).0, list_small)

    -- its table has so many bytes
    pub encode_most : length b ≤ 10 + 30 * length l
    encode_most = build_most W wide l few fine (encode_accepted W l e).1

    -- and is within the input's limit
    pub encode_fits : length b ≤ input_limit
    encode_fits = omega (arith, encode_most, (encode_accepted W l e).0, list_most)

    -- the round trip: it decodes to the list
    pub decode_encode : (strict : Bool) → decode strict W b ≡ accepted l
    decode_encode strict = let (h, f) = encode_accepted W l e in decode_in strict W b encode_fits ∙ parse_build strict W wide l few fine f

-- ---- the records of four columns
module _ (os ts ys : List ℕ) (us : List ℤ) (s : Same os ts ys us) where
  -- the record at an index
  at : (P : Row → Type 0) (i : ℕ) → i < length (rows os ts ys us) → P (row (get_or os i 0) (get_or ts i 0) (get_or ys i 0) (get_or us i (pos 0))) → At (rows os ts ys us) P i
  at P i h p =
      record {
        one = row (get_or os i 0) (get_or ts i 0) (get_or ys i 0) (get_or us i (pos 0));
        here = rows_from_law os ts ys us s.types s.symbols s.addends i (omega (arith, many os ts ys us s));
        is = p;
      }

  pub rows_fine : ((i : ℕ) → i < length os → Fine (row (get_or os i 0) (get_or ts i 0) (get_or ys i 0) (get_or us i (pos 0)))) → Each Fine (rows os ts ys us)
  rows_fine f = each_of Fine (rows os ts ys us) (λ i h. at Fine i h (f i (omega (arith, many os ts ys us s))))

  -- they have these columns
  pub rows_offsets : map offset_of (rows os ts ys us) ≡ os
  rows_offsets = column_of offset_of (rows os ts ys us) os 0 (many os ts ys us s) (λ i h. at (λ (x : Row). offset_of x ≡ get_or os i 0) i h refl)

  pub rows_types : map type_of (rows os ts ys us) ≡ ts
  rows_types = column_of type_of (rows os ts ys us) ts 0 (many os ts ys us s ∙ s.types) (λ i h. at (λ (x : Row). type_of x ≡ get_or ts i 0) i h refl)

  pub rows_symbols : map symbol_of (rows os ts ys us) ≡ ys
  rows_symbols = column_of symbol_of (rows os ts ys us) ys 0 (many os ts ys us s ∙ s.symbols) (λ i h. at (λ (x : Row). symbol_of x ≡ get_or ys i 0) i h refl)

  pub rows_addends : map addend_of (rows os ts ys us) ≡ us
  rows_addends = column_of addend_of (rows os ts ys us) us (pos 0) (many os ts ys us s ∙ s.addends) (λ i h. at (λ (x : Row). addend_of x ≡ get_or us i (pos 0)) i h refl)
