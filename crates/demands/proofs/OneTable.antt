-- Document 02, §7, as theorems about the calls, for APA1 and for RELLEB at each class. (A table is bytes: `Bytes s`.)
--   KIND-again  a table that a strict read accepts, with a list within the list limit, is exactly the table that the writer makes of that list: the
--               write of the columns that were read, into enough room, succeeds with those bytes, and its count is the table's length
--   KIND-one    two tables of one kind and class that strict reads accept have equal bytes if their lists are equal (within the limit or not)
-- And the exceptions, computed from the definitions, with what two calls make of them:
--   apr1_split, apr1_alike   an APR1 table with a run that is split
--   relr_empty, relr_alike   a RELR table with an empty bitmap added, in each class and order
-- Assumes nothing.
use mathlib.Core.Bool.{true}
use mathlib.Core.List.{List, [], ◌∷◌, map}
use mathlib.Core.Path.{◌≡◌, refl, sym, ap, ap₂, ◌∙◌, subst}
use Prim.Native.Nat.{ℕ, ◌≤◌}
use native.Mathlib.Omega.{arith}
use lib.IntN.{ℤ}
use lib.ListN.{length, take, length-map}
use Rattle.answer.specs.declared.Answer.{Answer}
use Rattle.answer.specs.Bytes.{Bytes}
use Rattle.answer.specs.Outcome.{Outcome, accepted, input_limit, list_limit, success, answer_in, filled, before, after, Gives}
use Rattle.answer.specs.Outcome.Laws.{Succeeded, answer_zero, answer_fits, filled_self}
use Rattle.leb128.specs.Number.{read_unsigned, lax_unsigned, raw, short, short_by}
use Rattle.records.specs.Identifier.{starts_with}
use Rattle.records.specs.Reading.{step_then, records}
use Rattle.word.specs.declared.Size.{Size}
use Rattle.word.specs.declared.Size.TheVariants.{Four, Eight}
use Rattle.word.specs.declared.ByteOrder.{ByteOrder}
use Rattle.word.specs.declared.ByteOrder.TheVariants.{Little, Big}
use Rattle.std.specs.Prelude.{Some}
use Rattle.word.specs.Class.{width_of, size_of, class_in, class_of}
use Rattle.word.specs.Class.Laws.{class_of_law}
use Rattle.word.specs.Word.{value_of, bytes_in, arranged, first_words, words_of, bytes_of_words}
use Rattle.relr_table.specs.Words as words
use Rattle.relr_table.specs.Table as relr
use Rattle.relr_table.specs.Contract as relr-contract
use Rattle.relr_table.specs.Contract.Laws as relr-laws
use Rattle.apr1_table.specs.Table as apr1
use Rattle.apr1_table.specs.Contract as apr1-contract
use Rattle.apa1_table.specs.Table as apa1
use Rattle.apa1_table.specs.Contract as apa1-contract
use Rattle.apa1_table.specs.Contract.Laws as apa1-laws
use Rattle.apa1_table.proofs.Converse as apa1-converse
use Rattle.relleb_table.specs.Table as relleb
use Rattle.relleb_table.specs.Contract as relleb-contract
use Rattle.relleb_table.specs.Contract.Laws as relleb-laws
use Rattle.relleb_table.proofs.Converse as relleb-converse
use Rattle.demands.specs.OneTable.{Makes, Spellings, Alike}
use Rattle.demands.proofs.Demands.{begins}

-- ---- once for every kind
-- a read that answers 0 has accepted a list, for which there is room, and counts its records
accepts : {A : Type 0} (room : ℕ) (o : Outcome (List A)) {r : Answer} → r ≡ answer_in room o → r.number ≡ 0 → Succeeded room o r
accepts room o e zero = subst (Succeeded room o) (sym e) (answer_zero room o (ap (λ (a : Answer). a.number) (sym e) ∙ zero))

counts : {A : Type 0} {room : ℕ} {o : Outcome (List A)} {r : Answer} (a : Succeeded room o r) → r.count ≡ length a.list
unfolding success
counts a = ap (λ (r : Answer). r.count) a.all

-- so many elements of a column with room are a field of its records
holds : {A B : Type 0} (f : A → B) {room : ℕ} {o : Outcome (List A)} {r : Answer} (a : Succeeded room o r) (old : List B) {new : List B} → length a.list ≤ length old → new ≡ filled f o old
    → take r.count new ≡ map f a.list
holds f a old {new} h g = ap (λ (n : ℕ). take n new) (counts a) ∙ begins f old a.is h g

-- a write whose outcome is a table makes it where there is room
makes : {o : Outcome (List ℕ)} {s old new : List ℕ} {w : Answer} → o ≡ accepted s → Gives o old w new → length s ≤ length old → Makes s old w new
makes {s = s} {old = old} e g h = record { answer = g.answer ∙ answer_fits (length old) (record { list = s; is = e; long = refl }) h; table = g.held ∙ filled_self old e h }

-- one outcome is one table
one_table : {o : Outcome (List ℕ)} {s t : List ℕ} → o ≡ accepted s → o ≡ accepted t → s ≡ t
one_table {s = s} {t = t} e f = let q : accepted s ≡ accepted t = sym e ∙ f in cc

-- ---- APA1
-- the list of a table that a strict read accepted: the columns hold it, up to the count
record Apa1List (s : List ℕ) (r : Answer) (os : List ℕ) (us : List ℤ) : Type 0 where
  list : List apa1.Row
  decodes : apa1.decode true s ≡ accepted list
  counted : r.count ≡ length list
  even : length (take r.count os) ≡ length (take r.count us)
  held : apa1.rows (take r.count os) (take r.count us) ≡ list

apa1_list : (s os : List ℕ) (us : List ℤ) {r : Answer} {os' : List ℕ} {us' : List ℤ} → apa1-contract.Reads true s os us r os' us' → r.number ≡ 0 → Apa1List s r os' us'
apa1_list s os us {r} {os'} {us'} reads zero =
    let a = accepts (length os) (apa1-contract.decoding true s (length os) (length us)) reads.answer zero in
    let l = a.list in
    let n = counts a in
    let (even, d) = apa1-laws.read_accepted true s (length os) (length us) a.is in
    let o : take r.count os' ≡ map apa1-contract.offset_of l = holds apa1-contract.offset_of a os a.fits reads.columns.offsets in
    let u : take r.count us' ≡ map apa1-contract.addend_of l = holds apa1-contract.addend_of a us (omega (arith, a.fits)) reads.columns.addends in
    record {
      list = l;
      decodes = d;
      counted = n;
      even = ap length o ∙ length-map l apa1-contract.offset_of ∙ sym (ap length u ∙ length-map l apa1-contract.addend_of);
      held = ap₂ apa1.rows o u ∙ apa1-converse.rows_back l;
    }

module _ (s : List ℕ) (bytes : Bytes s) (os : List ℕ) (us : List ℤ) {r : Answer} {os' : List ℕ} {us' : List ℤ} (reads : apa1-contract.Reads true s os us r os' us') (zero : r.number ≡ 0) where
  pub apa1_again : r.count ≤ list_limit → (old : List ℕ) {w : Answer} {new : List ℕ} → apa1-contract.Writes (take r.count os') (take r.count us') old w new → length s ≤ length old
      → Makes s old w new
  apa1_again few old g h =
      let a = apa1_list s os us reads zero in
      let e = apa1-laws.write_plain (take r.count os') (take r.count us') a.even ∙ ap apa1.encode a.held in
      makes (e ∙ apa1-converse.encode_decode s bytes a.decodes (omega (arith, a.counted))) g.gives h

module _ (s t : List ℕ) (os₁ os₂ : List ℕ) (us₁ us₂ : List ℤ) {r q : Answer} {os₁' os₂' : List ℕ} {us₁' us₂' : List ℤ} where
  pub apa1_one : Bytes s → Bytes t → apa1-contract.Reads true s os₁ us₁ r os₁' us₁' → apa1-contract.Reads true t os₂ us₂ q os₂' us₂' → r.number ≡ 0 → q.number ≡ 0
      → take r.count os₁' ≡ take q.count os₂' → take r.count us₁' ≡ take q.count us₂' → s ≡ t
  apa1_one bs bt d e y z o u =
      let a = apa1_list s os₁ us₁ d y in
      let b = apa1_list t os₂ us₂ e z in
      let l : a.list ≡ b.list = sym a.held ∙ ap₂ apa1.rows o u ∙ b.held in
      one_table (apa1-converse.build_decode s bs a.decodes) (ap apa1.build l ∙ apa1-converse.build_decode t bt b.decodes)

-- ---- RELLEB
-- the same of a class
record RellebList (class : ℕ) (s : List ℕ) (r : Answer) (os ts ys : List ℕ) (us : List ℤ) : Type 0 where
  z : Size
  named : class_of class ≡ Some z
  list : List relleb.Row
  decodes : relleb.decode true (width_of z) s ≡ accepted list
  counted : r.count ≡ length list
  same : relleb-contract.Same (take r.count os) (take r.count ts) (take r.count ys) (take r.count us)
  held : relleb.rows (take r.count os) (take r.count ts) (take r.count ys) (take r.count us) ≡ list

module _ (class : ℕ) (s os ts ys : List ℕ) (us : List ℤ) {r : Answer} {os' ts' ys' : List ℕ} {us' : List ℤ} where
  relleb_list : relleb-contract.Reads class true s os ts ys us r os' ts' ys' us' → r.number ≡ 0 → RellebList class s r os' ts' ys' us'
  relleb_list reads zero =
      let a = accepts (length os) (relleb-contract.decoding class true s (length os) (length ts) (length ys) (length us)) reads.answer zero in
      let l = a.list in
      let n = counts a in
      let (z, c, even, d) = relleb-laws.read_accepted class true s (length os) (length ts) (length ys) (length us) a.is in
      let same = relleb-laws.even_same os ts ys us even in
      let o : take r.count os' ≡ map relleb-contract.offset_of l = holds relleb-contract.offset_of a os a.fits reads.columns.offsets in
      let t : take r.count ts' ≡ map relleb-contract.type_of l = holds relleb-contract.type_of a ts (omega (arith, a.fits, same.types)) reads.columns.types in
      let y : take r.count ys' ≡ map relleb-contract.symbol_of l = holds relleb-contract.symbol_of a ys (omega (arith, a.fits, same.symbols)) reads.columns.symbols in
      let u : take r.count us' ≡ map relleb-contract.addend_of l = holds relleb-contract.addend_of a us (omega (arith, a.fits, same.addends)) reads.columns.addends in
      let long = ap length o ∙ length-map l relleb-contract.offset_of in
      record {
        z = z;
        named = c;
        list = l;
        decodes = d;
        counted = n;
        same = record {
          types = long ∙ sym (ap length t ∙ length-map l relleb-contract.type_of);
          symbols = long ∙ sym (ap length y ∙ length-map l relleb-contract.symbol_of);
          addends = long ∙ sym (ap length u ∙ length-map l relleb-contract.addend_of);
        };
        held = rw (o, t, y, u) (relleb-converse.rows_back l);
      }

module _ (class : ℕ) (s : List ℕ) (bytes : Bytes s) (os ts ys : List ℕ) (us : List ℤ) {r : Answer} {os' ts' ys' : List ℕ} {us' : List ℤ}
    (reads : relleb-contract.Reads class true s os ts ys us r os' ts' ys' us') (zero : r.number ≡ 0) where
  pub relleb_again : r.count ≤ list_limit → (old : List ℕ) {w : Answer} {new : List ℕ}
      → relleb-contract.Writes class (take r.count os') (take r.count ts') (take r.count ys') (take r.count us') old w new → length s ≤ length old → Makes s old w new
  relleb_again few old g h =
      let a = relleb_list class s os ts ys us reads zero in
      let o = take r.count os' in
      let t = take r.count ts' in
      let y = take r.count ys' in
      let u = take r.count us' in
      let e = relleb-laws.write_plain class o t y u refl a.named (relleb-laws.same_even o t y u a.same) ∙ ap (relleb.encode (width_of a.z)) a.held in
      makes (e ∙ relleb-converse.encode_decode (width_of a.z) (relleb-laws.class_width a.z refl) s bytes a.decodes (omega (arith, a.counted))) g.gives h

module _ (class : ℕ) (s t : List ℕ) (os₁ ts₁ ys₁ : List ℕ) (us₁ : List ℤ) (os₂ ts₂ ys₂ : List ℕ) (us₂ : List ℤ) {r q : Answer} {os₁' ts₁' ys₁' os₂' ts₂' ys₂' : List ℕ} {us₁' us₂' : List ℤ} where
  pub relleb_one : Bytes s → Bytes t → relleb-contract.Reads class true s os₁ ts₁ ys₁ us₁ r os₁' ts₁' ys₁' us₁' → relleb-contract.Reads class true t os₂ ts₂ ys₂ us₂ q os₂' ts₂' ys₂' us₂'
      → r.number ≡ 0 → q.number ≡ 0
      → take r.count os₁' ≡ take q.count os₂' → take r.count ts₁' ≡ take q.count ts₂' → take r.count ys₁' ≡ take q.count ys₂' → take r.count us₁' ≡ take q.count us₂' → s ≡ t
  relleb_one bs bt d e y z eo et ey eu =
      let a = relleb_list class s os₁ ts₁ ys₁ us₁ d y in
      let b = relleb_list class t os₂ ts₂ ys₂ us₂ e z in
      let k : a.z ≡ b.z = (let q : Some a.z ≡ Some b.z = sym a.named ∙ b.named in cc) in
      let l : a.list ≡ b.list = sym a.held ∙ rw (eo, et, ey, eu) b.held in
      one_table (relleb-converse.build_decode (width_of a.z) (relleb-laws.class_width a.z refl) s bs a.decodes)
      (ap₂ (λ (c : Size) (m : List relleb.Row). relleb.build (width_of c) m) k l ∙ relleb-converse.build_decode (width_of b.z) (relleb-laws.class_width b.z refl) t bt b.decodes)

-- ---- the exceptions
-- two reads of tables of one list with a column that has room
alike : {o o' : Outcome (List ℕ)} {l column new other : List ℕ} {r q : Answer} → o ≡ accepted l → o' ≡ accepted l → length l ≤ length column
    → Gives o column r new → Gives o' column q other → Alike (length l) r q new other
alike {l = l} {column = column} e f h g k =
    record {
      first = g.answer ∙ answer_fits (length column) (record { list = l; is = e; long = refl }) h;
      second = k.answer ∙ answer_fits (length column) (record { list = l; is = f; long = refl }) h;
      column = g.held ∙ filled_self column e h ∙ sym (k.held ∙ filled_self column f h);
    }

-- one run of two gaps of 4 behind the offset 0, and the same as two runs of one
pub apr1_split : Spellings (apr1.decode true) apr1.encode (0 ∷ 4 ∷ 8 ∷ [])
    (0x41 ∷ 0x50 ∷ 0x52 ∷ 0x31 ∷ 1 ∷ 0 ∷ 2 ∷ 4 ∷ [])
    (0x41 ∷ 0x50 ∷ 0x52 ∷ 0x31 ∷ 2 ∷ 0 ∷ 1 ∷ 4 ∷ 1 ∷ 4 ∷ [])
unfolding input_limit list_limit read_unsigned lax_unsigned raw short short_by before after starts_with step_then records
    apr1.run apr1.expand apr1.second_of apr1.first_of apr1.step_at apr1.joined apr1.with_first apr1.with_count apr1.parse apr1.decode apr1.pair_then
    apr1.pairs_from apr1.one_pair apr1.pair_bytes apr1.head_of apr1.table_of apr1.checked apr1.build apr1.encode
apr1_split = record { written = refl; first = refl; second = refl; differ = λ e. (let n = ap length e in omega arith) }

pub apr1_alike : {l one other : List ℕ} → Spellings (apr1.decode true) apr1.encode l one other → {column new new' : List ℕ} {r q : Answer} → length l ≤ length column
    → apr1-contract.Reads true one column r new → apr1-contract.Reads true other column q new' → Alike (length l) r q new new'
apr1_alike s h d e = alike s.first s.second h d e

-- an address, and the same with an empty bitmap behind it
pub relr_empty : (z : Size) (order : ByteOrder) → Spellings (relr.decode (class_in z order)) (relr.encode (class_in z order)) (0x1000 ∷ []) (bytes_of_words (class_in z order) (0x1000 ∷ [])) (bytes_of_words (class_in z order) (0x1000 ∷ 1 ∷ []))
unfolding input_limit list_limit before after value_of bytes_in arranged first_words words_of bytes_of_words
    words.marked words.fit words.anchored words.read words.falls words.bit words.word words.first words.write words.table
    relr.parse relr.decode relr.checked relr.build relr.encode
relr_empty Four Little = record { written = refl; first = refl; second = refl; differ = λ e. (let n = ap length e in omega arith) }
relr_empty Four Big = record { written = refl; first = refl; second = refl; differ = λ e. (let n = ap length e in omega arith) }
relr_empty Eight Little = record { written = refl; first = refl; second = refl; differ = λ e. (let n = ap length e in omega arith) }
relr_empty Eight Big = record { written = refl; first = refl; second = refl; differ = λ e. (let n = ap length e in omega arith) }

pub relr_alike : (z : Size) (order : ByteOrder) {l one other : List ℕ} → Spellings (relr.decode (class_in z order)) (relr.encode (class_in z order)) l one other → {column new new' : List ℕ} {r q : Answer}
    → length l ≤ length column → relr-contract.Reads (size_of z) order one column r new → relr-contract.Reads (size_of z) order other column q new' → Alike (length l) r q new new'
relr_alike z order {one = one} {other = other} s h d e =
    alike (relr-laws.decoding_is (size_of z) order refl (class_of_law z) one ∙ s.first) (relr-laws.decoding_is (size_of z) order refl (class_of_law z) other ∙ s.second) h d e
