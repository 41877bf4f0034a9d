-- The converse of the round trip: a table that is accepted strictly is the one that is written for its list.
-- Assumes nothing.
use Prim.Native.Nat.{ℕ, ◌≤◌, ◌<◌}
use mathlib.Core.Path.{◌≡◌, refl, ap, ap₂, sym, ◌∙◌}
use mathlib.Core.Bool.{Bool, true, false, cond}
use mathlib.Core.List.{List, ◌++◌, map, map-id, map-map, append_assoc}
use native.Mathlib.Omega.{arith}
use lib.IntN.{ℤ, pos, negsuc, ◌+ℤ◌, ◌-ℤ◌}
use lib.ListN.{length, drop}
use lib.Signed.{mag}
use Rattle.std.specs.Prelude.{Ok, Err}
use Rattle.answer.specs.Bytes.{Bytes}
use Rattle.answer.specs.declared.Refusal.TheVariants.{Identifier}
use Rattle.answer.specs.Outcome.{accepted, list_limit, err_at}
use Rattle.leb128.specs.Number.{read_signed, short_signed, Signed, ok_at}
use Rattle.leb128.proofs.Setting.{lax_signed_law, read_lax_signed, signed_value}
use Rattle.leb128.proofs.Reading.{ok_parts}
use Rattle.leb128.proofs.Strict.{strict_signed}
use Rattle.records.specs.Columns.{zipped}
use Rattle.records.specs.Columns.Laws.{zipped_map}
use Rattle.records.specs.Identifier.{starts_with}
use Rattle.records.specs.Identifier.Laws.{starts_whole}
use Rattle.records.specs.Reading.{one}
use Rattle.records.proofs.Converse.{Verbatim, forth_counted}
use Rattle.wrap.specs.Wrap.{residue, wrapped}
use Rattle.wrap.specs.Wrap.Laws.{residue_lt, residue_small, residue_wrapped, forth_wrapped}
use Rattle.apa1_table.specs.Table.{Row, row, start, identifier, second_of, first_of, step_at, plain, count_of, head_at, decode, rows, entry_bytes, put_of, behind, head_of, build, encode}
use Rattle.apa1_table.specs.Table.Laws.{parse_is, decode_accepted, build_is, encode_in, head_bytes, entry_bytes_law}
use Rattle.apa1_table.specs.Contract.{offset_of, addend_of}

module _ (s : List ℕ) (bytes : Bytes s) where
  -- ---- a record: its differences are the numbers that stand there
  abbrev AsWritten : ℕ → Row → Row → ℕ → Row → Type 0
  AsWritten at prev x past now = Verbatim put_of behind (λ (x : Row). Unit {0}) s at prev x past now

  from_second : (at next past : ℕ) (prev x now : Row) (d : ℤ) (u : Signed) → read_signed true 64 s at ≡ ok_at d next → read_signed true 64 s next ≡ u → second_of prev d u ≡ one x past now
      → AsWritten at prev x past now
  unfolding second_of
  from_second at next past prev x now d (Ok (a, p)) e f g =
      let w : 0 < 64 = omega arith in
      let is : row (residue 64 (pos prev.offset +ℤ d)) (wrapped 64 (prev.addend +ℤ a)) ≡ x = cc in
      let q : p ≡ past = cc in
      let k : wrapped 64 (pos x.offset -ℤ pos prev.offset) ≡ d =
      rw (← is) (forth_wrapped 64 w (pos prev.offset) _ d (residue_small 64 _ (residue_lt 64 _)) (signed_value true 64 s at d next e).0) in
      let m : wrapped 64 (x.addend -ℤ prev.addend) ≡ a = rw (← is) (forth_wrapped 64 w prev.addend _ a (residue_wrapped 64 w _) (signed_value true 64 s next a p f).0) in
      let b : entry_bytes prev x ≡ short_signed d ++ short_signed a = rw (entry_bytes_law prev x, k, m) in
      record {
        own = entry_bytes prev x;
        is = refl;
        here = strict_signed 64 s at w bytes e ∙ ap (λ (t : List ℕ). short_signed d ++ t) (strict_signed 64 s next w bytes f ∙ ap (λ (n : ℕ). short_signed a ++ drop n s) q)
            ∙ sym (append_assoc (short_signed d) (short_signed a) (drop past s)) ∙ ap (λ (t : List ℕ). t ++ drop past s) (sym b);
        state = cc;
        good = tt;
      }
  from_second at next past prev x now d (Err bad) e f g = let z : ◌≡◌ {A = ℕ} 0 1 = cc in absurd (omega arith)

  from_first : (at past : ℕ) (prev x now : Row) (u : Signed) → read_signed true 64 s at ≡ u → first_of true s prev u ≡ one x past now → AsWritten at prev x past now
  unfolding first_of
  from_first at past prev x now (Ok (d, next)) e g = from_second at next past prev x now d (read_signed true 64 s next) e refl g
  from_first at past prev x now (Err bad) e g = let z : ◌≡◌ {A = ℕ} 0 1 = cc in absurd (omega arith)

  record_forth : (at : ℕ) (prev x : Row) (past : ℕ) (now : Row) → Unit {0} → step_at true s at prev ≡ one x past now → AsWritten at prev x past now
  unfolding step_at
  record_forth at prev x past now u g = from_first at past prev x now (read_signed true 64 s at) refl g

  -- ---- the identifier and the count
  count_forth : {n first : ℕ} (u v : Signed) → read_signed false 64 s (length identifier) ≡ u → read_signed true 64 s (length identifier) ≡ v → count_of u v ≡ ok_at n first
      → read_signed true 64 s (length identifier) ≡ ok_at (pos n) first
  unfolding count_of plain
  count_forth {n} {first} (Ok (pos m, p)) (Ok (z, q)) e f g =
      let l : ok_at (pos m) p ≡ ok_at z q = sym e ∙ lax_signed_law 64 s (length identifier) ∙ read_lax_signed true 64 s (length identifier) f in
      let (k, _) = ok_parts l in
      let (h, o) = ok_parts {v = mag z} {w = n} {n = q} {m = first} g in
      f ∙ ap₂ ok_at (sym k ∙ ap pos (ap mag k ∙ h)) o
  count_forth (Ok (pos m, p)) (Err x) e f g = let z : ◌≡◌ {A = ℕ} 0 1 = cc in absurd (omega arith)
  count_forth (Ok (negsuc m, p)) v e f g = let z : ◌≡◌ {A = ℕ} 0 1 = cc in absurd (omega arith)
  count_forth (Err x) v e f g = let z : ◌≡◌ {A = ℕ} 0 1 = cc in absurd (omega arith)

  head_forth : {n first : ℕ} → head_at true s ≡ ok_at n first → s ≡ head_of n ++ drop first s
  unfolding head_at
  head_forth {n} {first} e = go (starts_with identifier s) refl e
    where
      go : (t : Bool) → starts_with identifier s ≡ t
          → cond t (count_of (read_signed false 64 s (length identifier)) (read_signed true 64 s (length identifier))) (err_at Identifier 0) ≡ ok_at n first → s ≡ head_of n ++ drop first s
      go true i e =
          let r = count_forth (read_signed false 64 s (length identifier)) (read_signed true 64 s (length identifier)) refl refl e in
          starts_whole identifier s i ∙ ap (λ (t : List ℕ). identifier ++ t) (strict_signed 64 s (length identifier) (omega arith) bytes r) ∙ sym (append_assoc identifier (short_signed (pos n)) (drop first s))
          ∙ ap (λ (t : List ℕ). t ++ drop first s) (sym (head_bytes n))
      go false i e = let z : ◌≡◌ {A = ℕ} 0 1 = cc in absurd (omega arith)

  -- ---- the whole table, however long its list is
  pub build_decode : {l : List Row} → decode true s ≡ accepted l → build l ≡ accepted s
  build_decode {l} e =
      build_is l ∙ forth_counted (step_at true s) put_of behind (λ (x : Row). Unit {0}) s record_forth head_of start tt (head_at true s) (λ n first h. head_forth h)
      (sym (parse_is true s) ∙ (decode_accepted true s e).1)

  -- the converse of the round trip: a table that decodes strictly to a list within its limit is the one that is written for it
  pub encode_decode : {l : List Row} → decode true s ≡ accepted l → length l ≤ list_limit → encode l ≡ accepted s
  encode_decode {l} e h = encode_in l h ∙ build_decode e

-- ---- the columns of a list are of that list
pub rows_back : (l : List Row) → rows (map offset_of l) (map addend_of l) ≡ l
unfolding rows
rows_back l = ap (λ (fs : List (ℤ → Row)). zipped fs (map addend_of l)) (map-map row offset_of l) ∙ zipped_map (λ (x : Row). row (offset_of x)) addend_of l ∙ map-id l
