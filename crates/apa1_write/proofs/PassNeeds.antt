-- What the writer's passes go by, as the code asks it. A loop has the addend before, w.
-- Assumes nothing.
use Prim.Native.Nat.{ℕ, ◌+◌, ◌^◌, ◌≤◌, ◌<◌}
use mathlib.Core.Path.{◌≡◌, refl, ap, ap₂, sym, ◌∙◌}
use mathlib.Core.List.{List, ◌∷◌}
use native.Mathlib.Omega.{arith}
use lib.IntN.{ℤ, pos}
use lib.ListN.{length, drop, get_or}
use lib.Signed.{mag}
use mir.Syntax.{w64}
use mir.Val.{to_z, of_z, Fits}
use mir.Facts.{to_z-of_z}
use borrow.Author.Count.{below_more}
use borrow.Author.Rules.{rules, sfits_of}
use Rattle.std.specs.Prelude.{Ok}
use Rattle.answer.specs.declared.Refusal.TheVariants.{Limit}
use Rattle.answer.proofs.Limits.{list_small}
use Rattle.answer.specs.Outcome.{Outcome, list_limit, after, found_of, err_at}
use Rattle.answer.specs.Outcome.Laws.{accepted_refused, found_refused}
use Rattle.answer.specs.Written.{Written}
use Rattle.records.specs.Writing as Writing
use Rattle.records.specs.Writing.{puts, Puts}
use Rattle.records.proofs.Writing.{Sized, sized_none, sized_more, sized_end, Putting, putting_none, putting_room, putting_more, putting_end, head_room, body_room, both_written}
use Rattle.apa1_table.specs.Table.{row, start, rows, entry_bytes, put_of, behind, head_of, build, encode}
use Rattle.apa1_table.specs.Table.Laws.{rows_length, rows_from_law, build_is, encode_over, encode_in, encode_accepted, entry_most, head_most}
use Rattle.apa1_table.proofs.RoundTrip.{decode_encode, rows_fine}
use Rattle.apa1_table.specs.Inner.{Listed, Measures, Puttable}

-- a signed number as the code passes it on: by its bits
abbrev Bits : ℤ → ℤ
Bits z = to_z w64 (of_z w64 z)

-- of two columns side by side, the pair x and a at an index
abbrev pub Turn : List ℕ → List ℤ → ℕ → ℕ → ℤ → Type 0
Turn os us i x a = (i < length os) × (i < length us) × ((d : ℕ) → x ≡ get_or os i d) × ((d : ℤ) → a ≡ get_or us i d)

-- the record at an index, as the loop has it
here : (os : List ℕ) (us : List ℤ) (same : length os ≡ length us) {i x : ℕ} {a : ℤ} → Turn os us i x a → mag a < 2 ^ 63 → drop i (rows os us) ≡ row x (Bits a) ∷ drop (i + 1) (rows os us)
here os us same {i} t m =
    rows_from_law os us same i t.0 ∙ ap₂ (λ (y : ℕ) (b : ℤ). row y b ∷ drop (i + 1) (rows os us)) (sym (t.2 0)) (sym (t.3 (pos 0)) ∙ sym (to_z-of_z {w = w64} (sfits_of m)))

-- ---- the first pass
-- the records before index i; of an addend its range is known where it was read
pub record Sizing (os : List ℕ) (us : List ℤ) (total o : ℕ) (w : ℤ) (i : ℕ) : Type 0 where
  pub sized : Sized put_of behind (build (rows os us)) (rows os us) 20 total i (row o w)
  pub within : i ≤ length os
  pub small : (j : ℕ) → j < i → mag (get_or us j (pos 0)) < 2 ^ 63

pub size_begin : {os : List ℕ} {us : List ℤ} {total : ℕ} → Listed os us → total ≡ length (head_of (length os)) → Sizing os us total 0 (pos 0) 0
size_begin {os} {us} l e =
    let n = rows_length os us l.same in
    let m = head_most (length (rows os us)) (omega (arith, l.few, list_small)) in
    record {
      sized = rw (build_is (rows os us), e, ← n) (sized_none put_of behind (rows os us) (head_of (length (rows os us))) 20 start (omega arith));
      within = omega arith;
      small = λ j h. absurd (omega arith);
    }

module _ {os : List ℕ} {us : List ℤ} {total o : ℕ} {w : ℤ} {i : ℕ} (l : Listed os us) (g : Sizing os us total o w i) where
  module _ {x r : ℕ} {a : ℤ} (t : Turn os us i x a) (m : mag a < 2 ^ 63) (e : r ≡ length (entry_bytes (row o w) (row x (Bits a)))) where
    pub size_sum : Fits w64 (total + r)
    size_sum = record { fits = omega (arith, t.0, g.sized.few, l.few, list_small, entry_most (row o w) (row x (Bits a))) }

    pub size_more : Sizing os us (total + r) x (Bits a) (i + 1)
    size_more =
        record {
          sized = rw e (sized_more g.sized (here os us l.same t m) refl (entry_most (row o w) (row x (Bits a))));
          within = omega (arith, t.0);
          small = below_more (λ (j : ℕ). mag (get_or us j (pos 0)) < 2 ^ 63) i g.small (rw (← t.3) m);
        }

  pub size_end : length os ≤ i → ((j : ℕ) → Fits w64 (get_or os j 0)) → Measures os us (Ok total)
  size_end h wide =
      let n = rows_length os us l.same in
      record {
        found = sized_end g.sized (omega arith) ∙ ap found_of (sym (encode_in (rows os us) (omega (arith, l.few))));
        back = λ strict b f. decode_encode strict (rows os us) f (rows_fine os us l.same (λ j k. ((wide j).fits, g.small j (omega arith))));
      }

-- ---- the limit in front
module _ {os : List ℕ} {us : List ℤ} (same : length os ≡ length us) where
  pub measure_over : list_limit < length os → Measures os us (err_at Limit 0)
  measure_over h =
      let e = encode_over (rows os us) (omega (arith, rows_length os us same)) in
      record { found = sym (found_refused e); back = λ strict b f. absurd (accepted_refused f e) }

-- ---- the second pass
abbrev pub body : List ℕ → List ℤ → Outcome (List ℕ)
body os us = puts put_of behind 0 start (rows os us)

-- the bytes of the records before index i stand in the buffer
pub record Filling (os : List ℕ) (us : List ℤ) (old now : List ℕ) (first at o : ℕ) (w : ℤ) (i : ℕ) : Type 0 where
  pub putting : Putting put_of behind (body os us) (rows os us) old now first at i (row o w)

pub put_begin : (os : List ℕ) (us : List ℤ) (old : List ℕ) (at : ℕ) → Filling os us old old at at 0 (pos 0) 0
put_begin os us old at = record { putting = putting_none put_of behind (rows os us) old at start }

module _ {os : List ℕ} {us : List ℤ} {old now : List ℕ} {first at o : ℕ} {w : ℤ} {i : ℕ} (f : Puttable (body os us) os us old first) (g : Filling os us old now first at o w i) where
  module _ {x : ℕ} {a : ℤ} (t : Turn os us i x a) (m : mag a < 2 ^ 63) where
    pub put_room : at + length (entry_bytes (row o w) (row x (Bits a))) ≤ length now
    put_room = putting_room f.fits g.putting (here os us f.same t m) refl

    pub put_more : {new : List ℕ} {past : ℕ} → Written now new at past (entry_bytes (row o w) (row x (Bits a))) → Filling os us old new first past x (Bits a) (i + 1)
    put_more v = record { putting = putting_more f.fits g.putting (here os us f.same t m) refl v }

  pub put_end : length os ≤ i → Puts (body os us) old now first
  put_end h = putting_end f.fits g.putting (omega (arith, rows_length os us f.same))

-- ---- the head, and then the records
module _ (os : List ℕ) (us : List ℤ) (old : List ℕ) (f : Puttable (encode (rows os us)) os us old 0) where
  within : length (rows os us) ≤ list_limit
  within = (encode_accepted (rows os us) f.fits.is).0

  whole : encode (rows os us) ≡ after (head_of (length os)) (body os us)
  whole = encode_in (rows os us) within ∙ build_is (rows os us) ∙ ap (λ (n : ℕ). after (head_of n) (body os us)) (rows_length os us f.same)

  all : Writing.Fits (after (head_of (length os)) (body os us)) old 0
  all = rw (← whole) f.fits

  pub fill_few : length os < 2 ^ 63
  fill_few = omega (arith, within, rows_length os us f.same, list_small)

  pub fill_head : 0 + length (head_of (length os)) ≤ length old
  fill_head = head_room (head_of (length os)) (body os us) all

  module _ {mid : List ℕ} {at : ℕ} (w : Written old mid 0 at (head_of (length os))) where
    pub fill_rest : Puttable (body os us) os us mid at
    fill_rest = record { same = f.same; fits = body_room (head_of (length os)) (body os us) all w }

    pub fill_all : {new : List ℕ} → Puts (body os us) mid new at → Puts (encode (rows os us)) old new 0
    fill_all p = rw whole (both_written w p)

pub ruleset fills = (fill_few, fill_head, fill_rest, fill_all, rules)
