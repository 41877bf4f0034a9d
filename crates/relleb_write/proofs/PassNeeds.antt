-- What the writer's passes go by, as the code asks it. A loop has the addend before, w.
-- Assumes nothing.
use Prim.Native.Nat.{ℕ, ◌+◌, ◌^◌, ◌≤◌, ◌<◌}
use mathlib.Core.Path.{◌≡◌, ap, sym, ◌∙◌}
use mathlib.Core.List.{List, ◌∷◌}
use native.Mathlib.Omega.{arith}
use lib.IntN.{ℤ, pos}
use lib.ListN.{length, drop, get_or}
use lib.Signed.{mag}
use mir.Syntax.{w32, w64}
use mir.Val.{Fits}
use mir.Facts.{to_z-of_z}
use borrow.Author.Rules.{rules, sfits_of}
use Rattle.std.specs.Prelude.{Ok}
use Rattle.answer.specs.declared.Refusal.{Refusal}
use Rattle.answer.specs.declared.Refusal.TheVariants.{Limit}
use Rattle.answer.proofs.Limits.{list_small}
use Rattle.answer.specs.Outcome.{Outcome, list_limit, after, err_at, found_of}
use Rattle.answer.specs.Outcome.Laws.{accepted_refused, found_refused, found_count, not_found}
use Rattle.answer.specs.Written.{Written}
use Rattle.leb128.specs.Number.{IsWidth, short_unsigned}
use Rattle.leb128.proofs.RoundTrip.{unsigned_bytes}
use Rattle.records.specs.Writing as Writing
use Rattle.records.specs.Writing.{bytes, puts, Puts}
use Rattle.records.proofs.Writing.{Sized, sized_none, sized_more, sized_bad, sized_end, Putting, putting_none, putting_bad, putting_room, putting_more, putting_end, head_room, body_room, both_written}
use Rattle.relleb_table.specs.Table.{Row, row, State, state, start, behind, rows, field_bytes, put_of, build, encode}
use Rattle.relleb_table.specs.Table.Laws.{rows_from_law, build_is, encode_over, encode_in, encode_accepted}
use Rattle.relleb_table.specs.Contract.{Same}
use Rattle.relleb_table.specs.Contract.Laws.{many}
use Rattle.relleb_table.specs.Inner.{Listed, Measures, Puttable}
use Rattle.relleb_table.proofs.RoundTrip.{put_is, decode_encode, rows_fine}
use Rattle.relleb_write.specs.Inner.{Measured}
use Rattle.relleb_write.proofs.EntryNeeds.{Bits}

-- the record at an index, as the loop has it
abbrev row_at : List ℕ → List ℕ → List ℕ → List ℤ → ℕ → Row
row_at os ts ys us i = row (get_or os i 0) (get_or ts i 0) (get_or ys i 0) (Bits (get_or us i (pos 0)))

module _ (os ts ys : List ℕ) (us : List ℤ) (same : Same os ts ys us) where
  here : (i : ℕ) → i < length os → mag (get_or us i (pos 0)) < 2 ^ 63 → drop i (rows os ts ys us) ≡ row_at os ts ys us i ∷ drop (i + 1) (rows os ts ys us)
  here i h m =
      rows_from_law os ts ys us same.types same.symbols same.addends i h
      ∙ ap (λ (a : ℤ). row (get_or os i 0) (get_or ts i 0) (get_or ys i 0) a ∷ drop (i + 1) (rows os ts ys us)) (sym (to_z-of_z {w = w64} (sfits_of m)))

-- ---- the first pass
-- at 64 bits every record that the columns can hold has bytes
put_wide : (W : ℕ) (prev : State) (x : Row) {why : Refusal} → W ≡ 64 → x.offset < 2 ^ 64 → mag x.addend < 2 ^ 63 → put_of W prev x ≡ Writing.none why → ⊥
put_wide W prev x w o a e =
    let f : put_of 64 prev x ≡ Writing.none _ = rw w at e in
    let g = sym (put_is 64 prev x (o, a)) ∙ f in
    let z : ◌≡◌ {A = ℕ} 0 1 = cc in
    omega arith

-- the records before index i
pub record Sizing (W : ℕ) (os ts ys : List ℕ) (us : List ℤ) (total o t : ℕ) (w : ℤ) (i : ℕ) : Type 0 where
  pub sized : Sized (put_of W) behind (build W (rows os ts ys us)) (rows os ts ys us) 40 total i (state o t w)

pub size_begin : (W : ℕ) {os ts ys : List ℕ} {us : List ℤ} {total : ℕ} → Listed os ts ys us → total ≡ length (short_unsigned (length os)) → Sizing W os ts ys us total 0 0 (pos 0) 0
size_begin W {os} {ts} {ys} {us} l e =
    let n = many os ts ys us l.same in
    let k = unsigned_bytes 64 (length (rows os ts ys us)) (omega arith) (omega (arith, l.few, list_small)) in
    record { sized = rw (build_is W (rows os ts ys us), e, ← n) (sized_none (put_of W) behind (rows os ts ys us) (short_unsigned (length (rows os ts ys us))) 40 start (omega arith)) }

module _ {W : ℕ} {os ts ys : List ℕ} {us : List ℤ} {total o t : ℕ} {w : ℤ} {i : ℕ} (l : Listed os ts ys us) (g : Sizing W os ts ys us total o t w i) where
  limit : encode W (rows os ts ys us) ≡ build W (rows os ts ys us)
  limit = encode_in W (rows os ts ys us) (omega (arith, many os ts ys us l.same, l.few))

  module _ (d : ℕ) (q f a : ℤ) {r : ℕ} (h : i < length os) (m : mag (get_or us i (pos 0)) < 2 ^ 63) (e : bytes (field_bytes d q f a) ≡ put_of W (state o t w) (row_at os ts ys us i))
      (n : Measured r (field_bytes d q f a)) where
    pub size_sum : Fits w64 (total + r)
    size_sum = record { fits = omega (arith, g.sized.few, l.few, n.few, list_small) }

    pub size_more : Sizing W os ts ys us (total + r) (get_or os i 0) (get_or ts i 0) (Bits (get_or us i (pos 0))) (i + 1)
    size_more = record { sized = rw n.is (sized_more g.sized (here os ts ys us l.same i h m) (sym e) (rw n.is at n.few)) }

  pub size_end : length os ≤ i → IsWidth W → ((j : ℕ) → Fits w32 (get_or ts j 0)) → ((j : ℕ) → Fits w32 (get_or ys j 0)) → Measures W os ts ys us (Ok total)
  size_end h wide kinds indexes =
      let p = sized_end g.sized (omega (arith, many os ts ys us l.same)) ∙ ap found_of (sym limit) in
      record {
        found = p;
        back = λ strict b q. decode_encode W (rows os ts ys us) wide q (rows_fine os ts ys us l.same (λ j k. ((kinds j).fits, (indexes j).fits))) strict;
        wide = λ v k. (let c = found_count (encode W (rows os ts ys us)) (sym p) in record { list = c.list; is = c.is });
      }

-- a refused record; at 64 bits there is none
pub size_bad : {W : ℕ} {os ts ys : List ℕ} {us : List ℤ} {total o t : ℕ} {w : ℤ} {i : ℕ} {why : Refusal} → Writing.none why ≡ put_of W (state o t w) (row_at os ts ys us i)
    → Sizing W os ts ys us total o t w i → Listed os ts ys us → i < length os → mag (get_or us i (pos 0)) < 2 ^ 63 → ((j : ℕ) → Fits w64 (get_or os j 0)) → Measures W os ts ys us (err_at why i)
size_bad {W} {os} {ts} {ys} {us} {i = i} e g l h m wide =
    let p = sized_bad g.sized (here os ts ys us l.same i h m) (sym e) ∙ ap found_of (sym (limit l g)) in
    record {
      found = p;
      back = λ strict b q. absurd (accepted_refused q (not_found (encode W (rows os ts ys us)) (sym p)));
      wide = λ v k. absurd (put_wide W _ (row_at os ts ys us i) v (wide i).fits (rw (to_z-of_z {w = w64} (sfits_of m)) m) (sym e));
    }

-- ---- the limit in front
module _ (W : ℕ) {os ts ys : List ℕ} {us : List ℤ} (same : Same os ts ys us) where
  pub measure_over : list_limit < length os → Measures W os ts ys us (err_at Limit 0)
  measure_over h =
      let e = encode_over W (rows os ts ys us) (omega (arith, many os ts ys us same)) in
      record { found = sym (found_refused e); back = λ strict b f. absurd (accepted_refused f e); wide = λ v k. absurd (omega arith) }

-- ---- the second pass
abbrev pub body : ℕ → List ℕ → List ℕ → List ℕ → List ℤ → Outcome (List ℕ)
body W os ts ys us = puts (put_of W) behind 0 start (rows os ts ys us)

-- the bytes of the records before index i stand in the buffer
pub record Filling (W : ℕ) (os ts ys : List ℕ) (us : List ℤ) (old now : List ℕ) (first at o t : ℕ) (w : ℤ) (i : ℕ) : Type 0 where
  pub putting : Putting (put_of W) behind (body W os ts ys us) (rows os ts ys us) old now first at i (state o t w)

pub put_begin : (W : ℕ) (os ts ys : List ℕ) (us : List ℤ) (old : List ℕ) (at : ℕ) → Filling W os ts ys us old old at at 0 0 (pos 0) 0
put_begin W os ts ys us old at = record { putting = putting_none (put_of W) behind (rows os ts ys us) old at start }

module _ {W : ℕ} {os ts ys : List ℕ} {us : List ℤ} {old now : List ℕ} {first at o t : ℕ} {w : ℤ} {i : ℕ} (f : Puttable (body W os ts ys us) os ts ys us old first) (g : Filling W os ts ys us old now first at o t w i) where
  module _ (h : i < length os) (m : mag (get_or us i (pos 0)) < 2 ^ 63) where
    pub put_bad : {why : Refusal} → Writing.none why ≡ put_of W (state o t w) (row_at os ts ys us i) → Puts (body W os ts ys us) old now first
    put_bad e = absurd (putting_bad f.fits g.putting (here os ts ys us f.same i h m) (sym e))

    module _ (d : ℕ) (q p a : ℤ) (e : bytes (field_bytes d q p a) ≡ put_of W (state o t w) (row_at os ts ys us i)) where
      pub put_room : at + length (field_bytes d q p a) ≤ length now
      put_room = putting_room f.fits g.putting (here os ts ys us f.same i h m) (sym e)

      pub put_more : {new : List ℕ} {past : ℕ} → Written now new at past (field_bytes d q p a)
          → Filling W os ts ys us old new first past (get_or os i 0) (get_or ts i 0) (Bits (get_or us i (pos 0))) (i + 1)
      put_more v = record { putting = putting_more f.fits g.putting (here os ts ys us f.same i h m) (sym e) v }

  pub put_end : length os ≤ i → Puts (body W os ts ys us) old now first
  put_end h = putting_end f.fits g.putting (omega (arith, many os ts ys us f.same))

-- ---- the count, and then the records
module _ (W : ℕ) (os ts ys : List ℕ) (us : List ℤ) (old : List ℕ) (f : Puttable (encode W (rows os ts ys us)) os ts ys us old 0) where
  whole : encode W (rows os ts ys us) ≡ after (short_unsigned (length os)) (body W os ts ys us)
  whole =
      encode_in W (rows os ts ys us) (encode_accepted W (rows os ts ys us) f.fits.is).0 ∙ build_is W (rows os ts ys us)
      ∙ ap (λ (n : ℕ). after (short_unsigned n) (body W os ts ys us)) (many os ts ys us f.same)

  all : Writing.Fits (after (short_unsigned (length os)) (body W os ts ys us)) old 0
  all = rw (← whole) f.fits

  pub fill_head : 0 + length (short_unsigned (length os)) ≤ length old
  fill_head = head_room (short_unsigned (length os)) (body W os ts ys us) all

  module _ {mid : List ℕ} {at : ℕ} (w : Written old mid 0 at (short_unsigned (length os))) where
    pub fill_rest : Puttable (body W os ts ys us) os ts ys us mid at
    fill_rest = record { same = f.same; fits = body_room (short_unsigned (length os)) (body W os ts ys us) all w }

    pub fill_all : {new : List ℕ} → Puts (body W os ts ys us) mid new at → Puts (encode W (rows os ts ys us)) old new 0
    fill_all p = rw whole (both_written w p)

pub ruleset fills = (fill_head, fill_rest, fill_all, rules)
