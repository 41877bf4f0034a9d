-- Document 02, §8, as theorems about the calls: at the limits no count can overflow. Of each call, its answer's place and count are at most
-- what specs/Bounds.antt names, and that is below 2^64; and what a write wrote, or needs, is no longer than an input may be. (A table that
-- is read is bytes, `Bytes s`; RELLEB's types and symbols are columns of u32.)
-- That *where* stays a whole number: relr_table/proofs/Where.antt.
-- Assumes nothing.
use mathlib.Core.Bool.{Bool, true, false, cond}
use mathlib.Core.List.{List}
use mathlib.Core.Path.{◌≡◌, refl}
use Prim.Native.Nat.{ℕ, ◌+◌, ◌-◌, ◌*◌, ◌/◌, ◌^◌, ◌≤◌, ◌<◌}
use native.Mathlib.Nat.{mul-le-mul_right}
use native.Mathlib.Omega.{arith}
use lib.Dec.{eqb, leb, lit<}
use lib.IntN.{ℤ}
use lib.ListN.{length}
use Rattle.answer.specs.declared.Answer.{Answer}
use Rattle.answer.specs.declared.Refusal.{Refusal}
use Rattle.answer.specs.declared.Refusal.TheVariants as why
use Rattle.answer.specs.Bytes.{Bytes}
use Rattle.answer.proofs.Limits.{input_most, list_most, list_small}
use Rattle.answer.specs.Outcome.{Outcome, accepted, refused, input_limit, list_limit, success, refusal, no_room, answer_in, answer_of}
use Rattle.answer.specs.Said.{Bounded, of_cond, of_accepted}
use Rattle.records.specs.Columns.Laws.{each_at}
use Rattle.records.specs.Reading.{records}
use Rattle.word.specs.declared.Size.{Size}
use Rattle.word.specs.declared.Size.TheVariants.{Four, Eight}
use Rattle.word.specs.declared.ByteOrder.{ByteOrder}
use Rattle.word.specs.declared.Class.{Class}
use Rattle.std.specs.Prelude.{Option}
use Rattle.std.specs.Prelude.{Some, None}
use Rattle.word.specs.Class.{width_of, class_in, bytes_of, window_of, class_of, in_class}
use Rattle.word.specs.Class.Laws.{size_most, bytes_least, by_bytes}
use Rattle.relr_table.specs.Words.{Where}
use Rattle.relr_table.specs.Table as relr
use Rattle.relr_table.specs.Contract as relr-contract
use Rattle.relr_table.specs.Inner.{read_of}
use Rattle.relr_table.proofs.Bounds as relr-bounds
use Rattle.apr1_table.specs.Table as apr1
use Rattle.apr1_table.specs.Contract as apr1-contract
use Rattle.apr1_table.proofs.Bounds as apr1-bounds
use Rattle.apa1_table.specs.Table as apa1
use Rattle.apa1_table.specs.Contract as apa1-contract
use Rattle.apa1_table.proofs.Bounds as apa1-bounds
use Rattle.relleb_table.specs.Table as relleb
use Rattle.relleb_table.specs.Contract as relleb-contract
use Rattle.relleb_table.specs.Contract.Laws as relleb-laws
use Rattle.relleb_table.proofs.Bounds as relleb-bounds
use Rattle.relleb_table.proofs.RoundTrip.{rows_fine}
use Rattle.demands.specs.Bounds.{relr_offsets, apr1_offsets, apa1_records, relleb_records, relr_bytes, apr1_bytes, apa1_bytes, relleb_bytes, in_named, U32, Within, Readable}

-- ---- the bounds are below 2^64, and what is written can be read
input_fits : input_limit < 2 ^ 64
input_fits = omega (arith, input_most)

list_fits : list_limit < 2 ^ 64
list_fits = omega (arith, list_small)

relr_offsets_fit : (z : Size) → relr_offsets z < 2 ^ 64
relr_offsets_fit Four = omega (arith, input_most)
relr_offsets_fit Eight = omega (arith, input_most)

relr_bytes_fit : (z : Size) → relr_bytes z ≤ input_limit
relr_bytes_fit z = omega (arith, list_most, mul-le-mul_right list_limit (size_most z))

-- ---- once for every call
module _ {A : Type 0} {P n : ℕ} {r : Answer} (small : P < 2 ^ 64) (few : n < 2 ^ 64) where
  -- a call that has room for so many elements
  answer_in_law : (room : ℕ) (o : Outcome (List A)) → Bounded P n o → r ≡ answer_in room o → Within P n r
  unfolding answer_in success no_room refusal
  answer_in_law room (accepted l) b e = go (leb (length l) room) e
    where
      go : (t : Bool) → r ≡ cond t (success (length l)) (no_room (length l)) → Within P n r
      go true f = record { place = rw f (omega arith); count = rw f b.long; place_fits = small; count_fits = few }
      go false f = record { place = rw f (omega arith); count = rw f b.long; place_fits = small; count_fits = few }
  answer_in_law room (refused w p) b e = record { place = rw e b.place; count = rw e (omega arith); place_fits = small; count_fits = few }

  -- one that needs no room
  answer_of_law : (o : Outcome (List A)) → Bounded P n o → r ≡ answer_of o → Within P n r
  unfolding answer_of success refusal
  answer_of_law (accepted l) b e = record { place = rw e (omega arith); count = rw e b.long; place_fits = small; count_fits = few }
  answer_of_law (refused w p) b e = record { place = rw e b.place; count = rw e (omega arith); place_fits = small; count_fits = few }

-- what a test or a class refuses is refused at 0
bounded_cond : {A : Type 0} {P n : ℕ} (t : Bool) (w : Refusal) (o : Outcome (List A)) → Bounded P n o → Bounded P n (cond t o (refused w 0))
bounded_cond t w o b = of_cond (Bounded _ _) t o (refused w 0) b (record { place = omega arith; long = tt })

bounded_class : {A : Type 0} (P n : Option Size → ℕ) (f : Size → Outcome (List A)) → ((z : Size) → Bounded (P (Some z)) (n (Some z)) (f z)) → (m : Option Size) → Bounded (P m) (n m) (in_class m f)
bounded_class P n f h (Some z) = h z
bounded_class P n f h None = record { place = omega arith; long = tt }

-- a write's answer
readable : {P n : ℕ} {r : Answer} → n ≤ input_limit → Within P n r → Readable P n r
readable h w = record { within = w; readable = omega (arith, w.count) }

-- ---- RELR
module _ (class : ℕ) where
  offsets_fit : in_named relr_offsets (class_of class) < 2 ^ 64
  offsets_fit = go (class_of class)
    where
      go : (m : Option Size) → in_named relr_offsets m < 2 ^ 64
      go (Some z) = relr_offsets_fit z
      go None = lit< tt

  bytes_readable : in_named relr_bytes (class_of class) ≤ input_limit
  bytes_readable = go (class_of class)
    where
      go : (m : Option Size) → in_named relr_bytes m ≤ input_limit
      go (Some z) = relr_bytes_fit z
      go None = omega arith

  pub relr_read : (order : ByteOrder) (s column : List ℕ) {column' : List ℕ} {r : Answer} → relr-contract.Reads class order s column r column' → Within input_limit (in_named relr_offsets (class_of class)) r
  unfolding relr-contract.decoding
  relr_read order s column d =
      answer_in_law input_fits offsets_fit (length column) (relr-contract.decoding class order s)
      (bounded_class (λ m. input_limit) (in_named relr_offsets) (λ z. relr.decode (class_in z order) s) (λ z. relr-bounds.decode_bounded (class_in z order) s) (class_of class)) d.answer

  pub relr_write : (order : ByteOrder) (l old : List ℕ) {new : List ℕ} {r : Answer} → relr-contract.Writes class order l old r new → Readable list_limit (in_named relr_bytes (class_of class)) r
  unfolding relr-contract.encoding
  relr_write order l old w =
      readable bytes_readable
      (answer_in_law list_fits (omega (arith, bytes_readable, input_most)) (length old) (relr-contract.encoding class order l)
      (bounded_class (λ m. list_limit) (in_named relr_bytes) (λ z. relr.encode (class_in z order) l) (λ z. relr-bounds.encode_bounded (class_in z order) l) (class_of class)) w.gives.answer)

  pub relr_apply : (order : ByteOrder) (s : List ℕ) (base start : ℕ) (old : List ℕ) {new : List ℕ} {r : Answer} → relr-contract.Applies class order s base start old r new
      → Within (in_named relr_offsets (class_of class)) (in_named relr_offsets (class_of class)) r
  unfolding relr-contract.applying
  relr_apply order s base start old a =
      answer_of_law offsets_fit offsets_fit (relr-contract.applying class order s base start (length old))
      (bounded_class (in_named relr_offsets) (in_named relr_offsets) (λ z. relr.targets (class_in z order) s base start (length old)) (λ z. relr-bounds.targets_bounded (class_in z order) s base start (length old)) (class_of class)) a.answer

-- ---- APR1
pub apr1_read : (strict : Bool) (s column : List ℕ) {column' : List ℕ} {r : Answer} → Bytes s → apr1-contract.Reads strict s column r column' → Within input_limit apr1_offsets r
apr1_read strict s column bytes d = answer_in_law input_fits (omega (arith, input_most)) (length column) (apr1-contract.decoding strict s) (apr1-bounds.decode_bounded strict s bytes) d.answer

pub apr1_write : (l old : List ℕ) {new : List ℕ} {r : Answer} → apr1-contract.Writes l old r new → Readable list_limit apr1_bytes r
apr1_write l old w =
    readable (omega (arith, list_most))
    (answer_in_law list_fits (omega (arith, list_small)) (length old) (apr1-contract.encoding l) (apr1-bounds.encode_bounded l) w.answer)

-- ---- APA1
pub apa1_read : (strict : Bool) (s os : List ℕ) (us : List ℤ) {os' : List ℕ} {us' : List ℤ} {r : Answer} → Bytes s → apa1-contract.Reads strict s os us r os' us' → Within input_limit apa1_records r
unfolding apa1-contract.decoding
apa1_read strict s os us bytes d =
    answer_in_law input_fits (omega (arith, input_most)) (length os) (apa1-contract.decoding strict s (length os) (length us))
    (bounded_cond (eqb (length os) (length us)) why.Columns (apa1.decode strict s) (apa1-bounds.decode_bounded strict s bytes)) d.answer

pub apa1_write : (os : List ℕ) (us : List ℤ) (old : List ℕ) {new : List ℕ} {r : Answer} → apa1-contract.Writes os us old r new → Readable list_limit apa1_bytes r
unfolding apa1-contract.encoding
apa1_write os us old w =
    readable (omega (arith, list_most))
    (answer_in_law list_fits (omega (arith, list_small)) (length old) (apa1-contract.encoding os us)
    (bounded_cond (eqb (length os) (length us)) why.Columns (apa1.encode (apa1.rows os us)) (apa1-bounds.encode_bounded (apa1.rows os us))) w.gives.answer)

-- ---- RELLEB
module _ (class : ℕ) where
  pub relleb_read : (strict : Bool) (s os ts ys : List ℕ) (us : List ℤ) {os' ts' ys' : List ℕ} {us' : List ℤ} {r : Answer} → Bytes s → relleb-contract.Reads class strict s os ts ys us r os' ts' ys' us'
      → Within input_limit relleb_records r
  unfolding relleb-contract.decoding
  relleb_read strict s os ts ys us bytes d =
      let even = relleb-contract.even (length os) (length ts) (length ys) (length us) in
      answer_in_law input_fits (omega (arith, input_most)) (length os) (relleb-contract.decoding class strict s (length os) (length ts) (length ys) (length us))
      (bounded_class (λ m. input_limit) (λ m. relleb_records) (λ k. cond even (relleb.decode strict (width_of k) s) (refused why.Columns 0))
      (λ k. bounded_cond even why.Columns (relleb.decode strict (width_of k) s) (relleb-bounds.decode_bounded strict (width_of k) s (relleb-laws.class_width k refl).0 bytes)) (class_of class)) d.answer

  pub relleb_write : (os ts ys : List ℕ) (us : List ℤ) (old : List ℕ) {new : List ℕ} {r : Answer} → U32 ts → U32 ys → relleb-contract.Writes class os ts ys us old r new
      → Readable list_limit relleb_bytes r
  unfolding relleb-contract.encoding
  relleb_write os ts ys us old types symbols w =
      readable (omega (arith, list_most))
      (answer_in_law list_fits (omega (arith, list_small)) (length old) (relleb-contract.encoding class os ts ys us)
      (bounded_class (λ m. list_limit) (λ m. relleb_bytes) (λ k. cond even (relleb.encode (width_of k) (relleb.rows os ts ys us)) (refused why.Columns 0)) (λ k. columns k even refl) (class_of class))
      w.gives.answer)
    where
      even : Bool
      even = relleb-contract.even (length os) (length ts) (length ys) (length us)

      columns : (k : Size) (t : Bool) → even ≡ t → Bounded list_limit relleb_bytes (cond t (relleb.encode (width_of k) (relleb.rows os ts ys us)) (refused why.Columns 0))
      columns k true e =
          let same = relleb-laws.even_same os ts ys us e in
          relleb-bounds.encode_bounded (width_of k) (relleb.rows os ts ys us) (relleb-laws.class_width k refl)
          (rows_fine os ts ys us same (λ i h. (each_at (λ (n : ℕ). n < 2 ^ 32) ts 0 types i (omega (arith, same.types)), each_at (λ (n : ℕ). n < 2 ^ 32) ys 0 symbols i (omega (arith, same.symbols)))))
      columns k false e = record { place = omega arith; long = tt }

-- ---- what the passes hold on their way; of a writer's the theorems above speak too, since the first records of a list are a list
-- a place and the longest number or word behind it: 32 bits hold it
pub place_fits : (p : ℕ) → p ≤ input_limit → p + 10 < 2 ^ 32
place_fits p h = omega (arith, input_most)

-- RELR: the offsets of some words of a table, wherever they stand and whatever stood before them
pub relr_passed : (k : Class) (t : List ℕ) (i : ℕ) (w : Where) {l : List ℕ} → length t * bytes_of k ≤ input_limit → read_of k t i w ≡ accepted l → length l ≤ relr_offsets k.size
relr_passed k t i w {l} h e =
    let q = of_accepted (λ (l : List ℕ). length l ≤ length t * window_of k) e (relr-bounds.words_most (bytes_of k) (window_of k) (relr.space_of k) (omega (arith, bytes_least k)) t i w) in
    omega (arith, mul-le-mul_right (window_of k) (words k (length t) h))
  where
    words : (j : Class) (m : ℕ) → m * bytes_of j ≤ input_limit → m ≤ input_limit / bytes_of j
    words j m = by_bytes (λ (n : ℕ). m * n ≤ input_limit → m ≤ input_limit / n) (λ h. omega arith) (λ h. omega arith) j

-- APR1: the first offset and those of some pairs of a table, wherever they end
pub apr1_passed : (strict : Bool) (s : List ℕ) (end n at x : ℕ) {ps : List apr1.Pair} → length s ≤ input_limit → at ≤ length s → records (apr1.step_at strict s) end n at x ≡ accepted ps → 1 + length (apr1.expand x ps) ≤ apr1_offsets
apr1_passed strict s end n at x h k e =
    let q = of_accepted (λ (ps : List apr1.Pair). length (apr1.expand x ps) ≤ length s / 2 * (2 ^ 32 - 1)) e (apr1-bounds.pairs_most strict s end n at x k) in
    let m : length s / 2 ≤ input_limit / 2 = omega arith in
    omega (arith, mul-le-mul_right (2 ^ 32 - 1) m)
