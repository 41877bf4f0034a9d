-- The converse of the round trip, once over the width W: a table that is accepted strictly is the one that is written for its list.
-- Assumes nothing.
use Prim.Native.Nat.{ℕ, ◌+◌, ◌-◌, ◌%◌, ◌^◌, ◌≤◌, ◌<◌}
use mathlib.Core.Path.{◌≡◌, refl, ap, ap₂, sym, ◌∙◌}
use mathlib.Core.Bool.{Bool, true, false, cond}
use mathlib.Core.List.{List, [], ◌++◌, map, map-id, map-map, append_assoc, append-nil}
use native.Mathlib.Nat.{mod-lt}
use native.Mathlib.Omega.{arith}
use lib.IntN.{ℤ, pos, negsuc, ◌+ℤ◌, ◌-ℤ◌}
use lib.ListN.{length, drop}
use lib.Pow.{pow_pos}
use lib.Signed.{mag}
use Rattle.answer.specs.Bytes.{Bytes}
use Rattle.answer.specs.declared.Refusal.TheVariants.{Zero}
use Rattle.answer.specs.Outcome.{accepted, list_limit}
use Rattle.leb128.specs.Number.{IsWidth, read_unsigned, read_signed, short_unsigned, short_signed}
use Rattle.leb128.proofs.Setting.{unsigned_value, signed_value}
use Rattle.leb128.proofs.Strict.{strict_unsigned, strict_signed}
use Rattle.records.specs.Columns.{zipped}
use Rattle.records.specs.Columns.Laws.{zipped_map}
use Rattle.records.specs.Reading.{one, none}
use Rattle.records.proofs.Converse.{Verbatim, forth_counted}
use Rattle.wrap.specs.Wrap.{residue, wrapped, same}
use Rattle.wrap.specs.Wrap.Laws.{residue_lt, residue_small, residue_wrapped, wrapped_range, forth_unsigned, forth_wrapped, forth_none, same_true, same_self}
use Rattle.relleb_table.specs.Table.{Row, row, State, state, start, behind, no_change, with_addend, with_symbol, with_type, with_offset, step_at, decode, rows, field_of, change_bytes, entry_bytes, put_of, build, encode}
use Rattle.relleb_table.specs.Table.Laws.{parse_is, decode_accepted, entry_is, field_is, field_bytes_law, build_is, encode_in}
use Rattle.relleb_table.specs.Contract.{offset_of, type_of, symbol_of, addend_of}
use Rattle.relleb_table.proofs.RoundTrip.{put_is, Ranged}
use Rattle.std.specs.Prelude.{Ok, Err}
use Rattle.leb128.specs.Number.{Unsigned, Signed, ok_at}

module _ (W : ℕ) (wide : IsWidth W) (s : List ℕ) (bytes : Bytes s) where
  -- ---- from the symbol field on: the record x, behind the addend `base`, has the offset o and the type t, and its bytes stand at a place
  record Tail (base : ℤ) (o t at : ℕ) (x : Row) (past : ℕ) (now : State) : Type 0 where
    offset : x.offset ≡ o
    type : x.type ≡ t
    ranged : mag x.addend < 2 ^ (W - 1)
    state : now ≡ behind now x
    here : drop at s ≡ (short_signed (field_of base x) ++ change_bytes (field_of base x) (wrapped W (x.addend -ℤ base))) ++ drop past s

  -- the field of a symbol with the addend before it, and with another
  field_same : (base : ℤ) (o t y : ℕ) → field_of base (row o t y base) ≡ pos y
  field_same base o t y = field_is base (row o t y base) ∙ ap (λ (b : Bool). cond b (pos y) (negsuc y)) (same_self base)

  field_other : (base e : ℤ) (o t y : ℕ) → mag e < 2 ^ (W - 1) → no_change true e ≡ false → field_of base (row o t y (wrapped W (base +ℤ e))) ≡ negsuc y
  field_other base e o t y h n = field_is base (row o t y a) ∙ ap (λ (b : Bool). cond b (pos y) (negsuc y)) (go (same a base) refl)
    where
      a : ℤ
      a = wrapped W (base +ℤ e)

      -- were the addend the same, the difference would be 0
      go : (t : Bool) → same a base ≡ t → t ≡ false
      go true q =
          let z : e ≡ pos 0 = forth_none W wide.0 base e h (same_true a base q) in
          let f : no_change true (pos 0) ≡ false = ap (no_change true) (sym z) ∙ n in
          let g : no_change true (pos 0) ≡ true = same_self (pos 0) in
          let o : ◌≡◌ {A = ℕ} 0 1 = cc in
          absurd (omega arith)
      go false q = refl

  from_addend : (base : ℤ) (o t y at next past : ℕ) (x : Row) (now : State) (u : Signed) → read_signed true 33 s at ≡ ok_at (negsuc y) next → read_signed true W s next ≡ u
      → with_addend true W next base o t y u ≡ one x past now → Tail base o t at x past now
  unfolding with_addend
  from_addend base o t y at next past x now (Ok (e, p)) f g h = go (no_change true e) refl h
    where
      a : ℤ
      a = wrapped W (base +ℤ e)

      go : (b : Bool) → no_change true e ≡ b → cond b (none Zero next) (one (row o t y a) p (state o t a)) ≡ one x past now → Tail base o t at x past now
      go true n h = let z : ◌≡◌ {A = ℕ} 0 1 = cc in absurd (omega arith)
      go false n h =
          let is : row o t y a ≡ x = cc in
          let q : p ≡ past = cc in
          let m : mag e < 2 ^ (W - 1) = (signed_value true W s next e p g).0 in
          let k : field_of base (row o t y a) ≡ negsuc y = field_other base e o t y m n in
          let c : wrapped W (a -ℤ base) ≡ e = forth_wrapped W wide.0 base a e (residue_wrapped W wide.0 _) m in
          let v = short_signed (negsuc y) in
          let w : drop at s ≡ (v ++ short_signed e) ++ drop past s =
          strict_signed 33 s at (omega arith) bytes f ∙ ap (λ (t : List ℕ). v ++ t) (strict_signed W s next wide.0 bytes g ∙ ap (λ (n : ℕ). short_signed e ++ drop n s) q)
          ∙ sym (append_assoc v (short_signed e) (drop past s)) in
          rw (← is) (record { offset = refl; type = refl; ranged = wrapped_range W wide.0 _; state = cc; here = rw (k, c) w })
  from_addend base o t y at next past x now (Err e) f g h = let z : ◌≡◌ {A = ℕ} 0 1 = cc in absurd (omega arith)

  from_symbol : (base : ℤ) (o t at past : ℕ) (x : Row) (now : State) (u : Signed) → mag base < 2 ^ (W - 1) → read_signed true 33 s at ≡ u
      → with_symbol true W s base o t u ≡ one x past now → Tail base o t at x past now
  unfolding with_symbol
  from_symbol base o t at past x now (Ok ((pos y), next)) h f g =
      let is : row o t y base ≡ x = cc in
      let q : next ≡ past = cc in
      let v = short_signed (pos y) in
      let w : drop at s ≡ (v ++ []) ++ drop past s =
      strict_signed 33 s at (omega arith) bytes f ∙ ap₂ (λ (a : List ℕ) (n : ℕ). a ++ drop n s) (sym (append-nil v)) q in
      rw (← is) (record { offset = refl; type = refl; ranged = h; state = cc; here = rw (field_same base o t y) w })
  from_symbol base o t at past x now (Ok ((negsuc y), next)) h f g = from_addend base o t y at next past x now (read_signed true W s next) f refl g
  from_symbol base o t at past x now (Err e) h f g = let z : ◌≡◌ {A = ℕ} 0 1 = cc in absurd (omega arith)

  -- ---- a record: its differences are the numbers that stand there
  abbrev AsWritten : ℕ → State → Row → ℕ → State → Type 0
  AsWritten at prev x past now = Verbatim (put_of W) behind (Ranged W) s at prev x past now

  from_type : (at next past d : ℕ) (prev : State) (x : Row) (now : State) (u : Signed) → Ranged W prev → read_unsigned true W s at ≡ ok_at d next → read_signed true 32 s next ≡ u
      → with_type true W s prev ((prev.offset + d) % 2 ^ W) u ≡ one x past now → AsWritten at prev x past now
  unfolding with_type
  from_type at next past d prev x now (Ok (t, p)) r e f g =
      let w : 0 < 32 = omega arith in
      let z = from_symbol prev.addend ((prev.offset + d) % 2 ^ W) (residue 32 (pos prev.type +ℤ t)) p past x now (read_signed true 33 s p) r refl g in
      let y = field_of prev.addend x in
      let a = wrapped W (x.addend -ℤ prev.addend) in
      let v = short_signed y ++ change_bytes y a in
      let k : residue W (pos x.offset -ℤ pos prev.offset) ≡ d = rw z.offset (forth_unsigned W prev.offset d (unsigned_value true W s at d next e).0) in
      let m : wrapped 32 (pos x.type -ℤ pos prev.type) ≡ t =
      rw z.type (forth_wrapped 32 w (pos prev.type) _ t (residue_small 32 _ (residue_lt 32 _)) (signed_value true 32 s next t p f).0) in
      let b : entry_bytes W prev x ≡ short_unsigned d ++ (short_signed t ++ v) = entry_is W prev x ∙ rw (k, m) (field_bytes_law d t y a) in
      record {
        own = entry_bytes W prev x;
        is = put_is W prev x (rw z.offset (mod-lt (prev.offset + d) (pow_pos W)), z.ranged);
        here = strict_unsigned W s at wide.0 bytes e ∙ ap (λ (l : List ℕ). short_unsigned d ++ l) (strict_signed 32 s next w bytes f ∙ ap (λ (l : List ℕ). short_signed t ++ l) z.here
            ∙ sym (append_assoc (short_signed t) v (drop past s))) ∙ sym (append_assoc (short_unsigned d) (short_signed t ++ v) (drop past s)) ∙ ap (λ (l : List ℕ). l ++ drop past s) (sym b);
        state = z.state;
        good = rw z.state z.ranged;
      }
  from_type at next past d prev x now (Err bad) r e f g = let z : ◌≡◌ {A = ℕ} 0 1 = cc in absurd (omega arith)

  from_offset : (at past : ℕ) (prev : State) (x : Row) (now : State) (u : Unsigned) → Ranged W prev → read_unsigned true W s at ≡ u → with_offset true W s prev u ≡ one x past now → AsWritten at prev x past now
  unfolding with_offset
  from_offset at past prev x now (Ok (d, next)) r e g = from_type at next past d prev x now (read_signed true 32 s next) r e refl g
  from_offset at past prev x now (Err bad) r e g = let z : ◌≡◌ {A = ℕ} 0 1 = cc in absurd (omega arith)

  record_forth : (at : ℕ) (prev : State) (x : Row) (past : ℕ) (now : State) → Ranged W prev → step_at true W s at prev ≡ one x past now → AsWritten at prev x past now
  unfolding step_at
  record_forth at prev x past now r g = from_offset at past prev x now (read_unsigned true W s at) r refl g

  -- ---- the whole table, however long its list is
  pub build_decode : {l : List Row} → decode true W s ≡ accepted l → build W l ≡ accepted s
  build_decode {l} e =
      build_is W l ∙ forth_counted (step_at true W s) (put_of W) behind (Ranged W) s record_forth short_unsigned start (pow_pos (W - 1)) (read_unsigned true 64 s 0)
      (λ n first h. strict_unsigned 64 s 0 (omega arith) bytes h) (sym (parse_is true W s) ∙ (decode_accepted true W s e).1)

  -- the converse of the round trip: a table that decodes strictly to a list within its limit is the one that is written for it
  pub encode_decode : {l : List Row} → decode true W s ≡ accepted l → length l ≤ list_limit → encode W l ≡ accepted s
  encode_decode {l} e h = encode_in W l h ∙ build_decode e

-- ---- the columns of a list are of that list
pub rows_back : (l : List Row) → rows (map offset_of l) (map type_of l) (map symbol_of l) (map addend_of l) ≡ l
unfolding rows
rows_back l =
    ap (λ (fs : List (ℕ → ℕ → ℤ → Row)). zipped (zipped (zipped fs (map type_of l)) (map symbol_of l)) (map addend_of l)) (map-map row offset_of l)
    ∙ ap (λ (fs : List (ℕ → ℤ → Row)). zipped (zipped fs (map symbol_of l)) (map addend_of l)) (zipped_map (λ (x : Row). row (offset_of x)) type_of l)
    ∙ ap (λ (fs : List (ℤ → Row)). zipped fs (map addend_of l)) (zipped_map (λ (x : Row). row (offset_of x) (type_of x)) symbol_of l)
    ∙ zipped_map (λ (x : Row). row (offset_of x) (type_of x) (symbol_of x)) addend_of l ∙ map-id l
