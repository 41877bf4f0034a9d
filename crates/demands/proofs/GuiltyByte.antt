-- Document 02, §4, as theorems about the calls that read numbers: an answer 5 places a number outside its width at its last allowed byte,
-- and APA1's negative count at its first byte. Either way the place is that of a byte of the table. (A table is bytes: `Bytes s`.)
-- Assumes nothing.
use mathlib.Core.Bool.{Bool, true, false, cond}
use mathlib.Core.List.{List}
use mathlib.Core.Logic.{inl, inr}
use mathlib.Core.Path.{◌≡◌, refl, sym, ap, ◌∙◌}
use Prim.Native.Nat.{ℕ, ◌<◌}
use native.Mathlib.Omega.{arith}
use lib.Dec.{eqb, leb}
use lib.IntN.{ℤ, negsuc}
use lib.ListN.{length}
use Rattle.answer.specs.declared.Answer.{Answer}
use Rattle.answer.specs.declared.Refusal.TheVariants.{Width, Columns}
use Rattle.answer.specs.Bytes.{Bytes}
use Rattle.answer.specs.Outcome.{Outcome, accepted, refused, success, refusal, no_room, answer_in}
use Rattle.answer.specs.Outcome.Laws.{number_one}
use Rattle.leb128.proofs.Setting.{signed_value}
use Rattle.word.specs.declared.Size.{Size}
use Rattle.std.specs.Prelude.{Option}
use Rattle.std.specs.Prelude.{Some, None}
use Rattle.word.specs.Class.{width_of, class_of, in_class}
use Rattle.apr1_table.specs.Contract as apr1
use Rattle.apr1_table.specs.GuiltyByte as apr1-byte
use Rattle.apr1_table.proofs.GuiltyByte as apr1-guilty
use Rattle.apa1_table.specs.Table as apa1-table
use Rattle.apa1_table.specs.Contract as apa1
use Rattle.apa1_table.specs.GuiltyByte as apa1-byte
use Rattle.apa1_table.proofs.GuiltyByte as apa1-guilty
use Rattle.relleb_table.specs.Table as relleb-table
use Rattle.relleb_table.specs.Contract as relleb
use Rattle.relleb_table.specs.Contract.Laws as relleb-laws
use Rattle.relleb_table.specs.GuiltyByte as relleb-byte
use Rattle.relleb_table.proofs.GuiltyByte as relleb-guilty

-- an answer 5 is that refusal, at the place that it says
answered : {A : Type 0} (room : ℕ) (o : Outcome (List A)) {r : Answer} → r ≡ answer_in room o → r.number ≡ 5 → o ≡ refused Width r.place
unfolding answer_in success no_room refusal
answered room (accepted l) {r} e n = go (leb (length l) room) e
  where
    go : (t : Bool) → r ≡ cond t (success (length l)) (no_room (length l)) → accepted l ≡ refused Width r.place
    go true f = let z : ◌≡◌ {A = ℕ} 0 5 = sym (ap (λ (a : Answer). a.number) f) ∙ n in absurd (omega arith)
    go false f = let z : ◌≡◌ {A = ℕ} 9 5 = sym (ap (λ (a : Answer). a.number) f) ∙ n in absurd (omega arith)
answered room (refused why p) {r} e n =
    let w : why ≡ Width = number_one why Width (sym (ap (λ (a : Answer). a.number) e) ∙ n) in
    let q : p ≡ r.place = sym (ap (λ (a : Answer). a.place) e) in
    rw (w, q)

-- ---- APR1
module _ (strict : Bool) (s column : List ℕ) {column' : List ℕ} {r : Answer} (bytes : Bytes s) (reads : apr1.Reads strict s column r column') (is : r.number ≡ 5) where
  pub apr1_width : apr1-byte.WidthFault s r.place
  apr1_width = apr1-guilty.decode_guilty strict s bytes (answered (length column) (apr1.decoding strict s) reads.answer is)

  pub apr1_inside : r.place < length s
  apr1_inside = apr1_width.1.inside

-- ---- APA1
module _ (strict : Bool) (s os : List ℕ) (us : List ℤ) {r : Answer} {os' : List ℕ} {us' : List ℤ} (bytes : Bytes s) (reads : apa1.Reads strict s os us r os' us') (is : r.number ≡ 5) where
  apa1_decodes : apa1-table.decode strict s ≡ refused Width r.place
  unfolding apa1.decoding
  apa1_decodes = go (eqb (length os) (length us)) (answered (length os) (apa1.decoding strict s (length os) (length us)) reads.answer is)
    where
      go : (t : Bool) → cond t (apa1-table.decode strict s) (refused Columns 0) ≡ refused Width r.place → apa1-table.decode strict s ≡ refused Width r.place
      go true e = e
      go false e = let z : ◌≡◌ {A = ℕ} 0 1 = cc in absurd (omega arith)

  pub apa1_width : apa1-byte.WidthFault s r.place
  apa1_width = apa1-guilty.decode_guilty s bytes strict apa1_decodes

  pub apa1_inside : r.place < length s
  apa1_inside = go apa1_width
    where
      go : apa1-byte.WidthFault s r.place → r.place < length s
      go (inl (at, g)) = g.inside
      go (inr (p, (n, next, e))) = omega (arith, signed_value false 64 s (length apa1-table.identifier) (negsuc n) next e)

-- ---- RELLEB
module _ (size : ℕ) (strict : Bool) (s os ts ys : List ℕ) (us : List ℤ) {r : Answer} {os' ts' ys' : List ℕ} {us' : List ℤ} (bytes : Bytes s)
    (reads : relleb.Reads size strict s os ts ys us r os' ts' ys' us') (is : r.number ≡ 5) where
  -- what the columns and the class do not refuse, the table does
  relleb_uneven : (k : Size) (t : Bool) → cond t (relleb-table.decode strict (width_of k) s) (refused Columns 0) ≡ refused Width r.place
      → relleb-byte.WidthFault (width_of k) s r.place
  relleb_uneven k true e = relleb-guilty.decode_guilty strict (width_of k) (relleb-laws.class_width k refl).0 s bytes e
  relleb_uneven k false e = let z : ◌≡◌ {A = ℕ} 0 1 = cc in absurd (omega arith)

  pub relleb_width : (k : Size) × (class_of size ≡ Some k) × relleb-byte.WidthFault (width_of k) s r.place
  unfolding relleb.decoding
  relleb_width = go (class_of size) refl (answered (length os) (relleb.decoding size strict s (length os) (length ts) (length ys) (length us)) reads.answer is)
    where
      even : Bool
      even = relleb.even (length os) (length ts) (length ys) (length us)

      go : (n : Option Size) → class_of size ≡ n → in_class n (λ k. cond even (relleb-table.decode strict (width_of k) s) (refused Columns 0)) ≡ refused Width r.place
          → (k : Size) × (class_of size ≡ Some k) × relleb-byte.WidthFault (width_of k) s r.place
      go (Some k) e f = (k, e, relleb_uneven k even f)
      go None e f = let z : ◌≡◌ {A = ℕ} 0 1 = cc in absurd (omega arith)

  pub relleb_inside : r.place < length s
  relleb_inside = let (k, e, f) = relleb_width in go k f
    where
      go : (k : Size) → relleb-byte.WidthFault (width_of k) s r.place → r.place < length s
      go k (inl (at, g)) = g.inside
      go k (inr (inl (at, g))) = g.inside
      go k (inr (inr (inl (at, g)))) = g.inside
      go k (inr (inr (inr (inl (at, g))))) = g.inside
      go k (inr (inr (inr (inr (at, g))))) = g.inside
