-- What is promised of the calls, in the papers' words, as theorems about their contracts. The same names for each kind:
--   KIND-back       demand 2: a legal list with room for its table is written; and reading that table into columns with room gives the list
--                   back, record for record; a kind of LEB128 numbers by either setting
--   KIND-legal, KIND-legal-is     document 01: which lists are legal, those to which no refusal but 9 applies
--   KIND-only       document 01: a write gives only 11, 2 and 9
--   relr_elsewhere  demand 2: applying changes no other byte
--   relleb_changes  document 01: the writer never makes an addend difference of 0
-- The bounds of u64, u32 and i64 columns are no premise: where a table reads back for their sake, the contract of the write says that it does.
-- Assumes nothing.
use mathlib.Core.List.{List, map, map-id}
use mathlib.Core.Bool.{Bool, true, false}
use mathlib.Core.Logic.{inl, inr}
use mathlib.Core.Path.{◌≡◌, refl, sym, ap, ◌∙◌}
use Prim.Native.Nat.{ℕ, ◌+◌, ◌≤◌}
use native.Mathlib.Decide.{dec_le, ℕ_discrete}
use native.Mathlib.Omega.{arith}
use lib.IntN.{ℤ}
use lib.ListN.{length, take, drop, get_or, length-map}
use lib.Seq.{take_at}
use Rattle.answer.specs.declared.Answer.{Answer}
use Rattle.answer.specs.declared.Refusal.{Refusal}
use Rattle.answer.specs.declared.Refusal.TheVariants as why
use Rattle.answer.specs.Outcome.{Outcome, accepted, refused, number_of, list_limit, success, refusal, no_room, filled, itself, Gives}
use Rattle.answer.specs.Outcome.Laws.{Accepts, answer_fits, answer_long, answer_refused, filled_fits, gives_zero}
use Rattle.records.specs.Columns.{Each}
use Rattle.records.specs.Reading.{Fitting}
use Rattle.word.specs.declared.Size.{Size}
use Rattle.word.specs.declared.ByteOrder.{ByteOrder}
use Rattle.std.specs.Prelude.{Some}
use Rattle.word.specs.Class.{width_of, class_in, class_of}
use Rattle.word.specs.Class.Laws.{class_accepted}
use Rattle.relr_table.specs.Table as relr
use Rattle.relr_table.specs.Contract as relr-contract
use Rattle.relr_table.specs.Contract.Laws as relr-laws
use Rattle.relr_table.proofs.RoundTrip as relr-trip
use Rattle.relr_table.proofs.Applying.{patched_apart, targets_accepted}
use Rattle.apr1_table.specs.Table as apr1
use Rattle.apr1_table.specs.Contract as apr1-contract
use Rattle.apr1_table.proofs.RoundTrip as apr1-trip
use Rattle.apa1_table.specs.Table as apa1
use Rattle.apa1_table.specs.Table.Laws.{rows_length, encode_over}
use Rattle.apa1_table.specs.Contract as apa1-contract
use Rattle.apa1_table.specs.Contract.Laws as apa1-laws
use Rattle.apa1_table.proofs.RoundTrip as apa1-trip
use Rattle.relleb_table.specs.Table as relleb
use Rattle.relleb_table.specs.Table.Laws.{encode_over as relleb-over}
use Rattle.relleb_table.specs.Contract as relleb-contract
use Rattle.relleb_table.specs.Contract.Laws as relleb-laws
use Rattle.relleb_table.proofs.RoundTrip as relleb-trip
use Rattle.relleb_table.proofs.Changes.{legal_changes}
use Rattle.demands.specs.Statements.{Begins, Returned, Only}

-- ---- once for every kind
module _ {o : Outcome (List ℕ)} {old new : List ℕ} {w : Answer} (f : Fitting o (length old)) (g : Gives o old w new) where
  -- a call with room for its bytes succeeds with their number
  wrote : w ≡ success (length f.list)
  wrote = g.answer ∙ answer_fits (length old) (record { list = f.list; is = f.is; long = refl }) f.fits

  wrote_zero : w.number ≡ 0
  unfolding success
  wrote_zero = ap (λ (a : Answer). a.number) wrote

  -- and so many stand at the front
  front : take w.count new ≡ f.list
  front = let e : accepted (take w.count new) ≡ accepted f.list = sym (gives_zero g wrote_zero) ∙ f.is in cc

-- a column with room for an accepted list begins with a field of its records
pub begins : {A B : Type 0} (f : A → B) {o : Outcome (List A)} (old : List B) {new : List B} {l : List A} → o ≡ accepted l → length l ≤ length old → new ≡ filled f o old
    → take (length l) new ≡ map f l
begins f old {l = l} e h g = rw (g, filled_fits f old e h) (take_at (map f l) (drop (length l) old) (length l) (length-map l f))

-- and where the fields are a column of that length, with that column
begins_as : {A B : Type 0} (f : A → B) {o : Outcome (List A)} (old : List B) {new : List B} {l : List A} {c : List B} → o ≡ accepted l → map f l ≡ c → length c ≤ length old → new ≡ filled f o old
    → Begins c new
begins_as f old {l = l} {c = c} e m h g =
    let n : length c ≡ length l = ap length (sym m) ∙ length-map l f in
    rw n (begins f old e (omega arith) g) ∙ m

-- the same of a column of the elements themselves, with the answer
returned : {A : Type 0} (o : Outcome (List A)) (old : List A) {new : List A} {w r : Answer} {l : List A} {b : ℕ} → w ≡ success b → o ≡ accepted l → Gives o old r new → length l ≤ length old
    → Returned w r b (length l) × Begins l new
returned o old {l = l} n e g h = (
  record { written = n; read = g.answer ∙ answer_fits (length old) (record { list = l; is = e; long = refl }) h },
  begins_as itself old e (map-id l) h g.held,
)

module _ {o : Outcome (List ℕ)} {old new : List ℕ} {w : Answer} (g : Gives o old w new) where
  -- an accepted write answers 0 or 9
  only_accepted : Accepts o → Only w.number
  unfolding success no_room
  only_accepted a =
      elim (dec_le (length a.list) (length old)) [
        | yes h ↦ inl (ap (λ (r : Answer). r.number) (g.answer ∙ answer_fits (length old) (record { list = a.list; is = a.is; long = refl }) h))
        | no h ↦ inr (inr (inl (ap (λ (r : Answer). r.number) (g.answer ∙ answer_long (length old) (record { list = a.list; is = a.is; long = refl }) (omega arith)))))
      ]

  refused_number : {y : Refusal} {p : ℕ} → o ≡ refused y p → w.number ≡ number_of y
  unfolding refusal
  refused_number e = ap (λ (r : Answer). r.number) (g.answer ∙ answer_refused (length old) e)

-- ---- RELR
module _ (class : ℕ) (order : ByteOrder) (l : List ℕ) where
  pub relr_legal : (z : Size) → class_of class ≡ Some z → relr.Writable (class_in z order) l → Accepts (relr-contract.encoding class order l)
  relr_legal z e h =
      record { list = relr.table_bytes (class_in z order) l; is = relr-laws.encoding_is class order refl e l ∙ relr-trip.encode_accepts (class_in z order) l h }

  pub relr_legal_is : {b : List ℕ} → relr-contract.encoding class order l ≡ accepted b → (z : Size) × (class_of class ≡ Some z) × relr.Writable (class_in z order) l
  unfolding relr-contract.encoding
  relr_legal_is e = let (z, n, f) = class_accepted (class_of class) _ e in (z, n, relr-trip.encode_legal (class_in z order) l f)

  relr_decodes : {b : List ℕ} → relr-contract.encoding class order l ≡ accepted b → relr-contract.decoding class order b ≡ accepted l
  relr_decodes {b} e =
      let (z, n, h) = relr_legal_is e in
      relr-laws.decoding_is class order refl n b ∙ relr-trip.decode_encode (class_in z order) l (sym (relr-laws.encoding_is class order refl n l) ∙ e)

module _ (class : ℕ) (order : ByteOrder) (l old column : List ℕ) {new column' : List ℕ} {w r : Answer} where
  pub relr_back : (f : Fitting (relr-contract.encoding class order l) (length old)) → relr-contract.Writes class order l old w new → relr-contract.Reads class order (take w.count new) column r column'
      → length l ≤ length column → Returned w r (length f.list) (length l) × Begins l column'
  relr_back f g d h =
      returned (relr-contract.decoding class order (take w.count new)) column (wrote f g.gives) (rw (front f g.gives) (relr_decodes class order l f.is)) d h

-- the byte at index i, whose address is the start plus i, is as it was if it lies in no word at an offset of the table
module _ (class : ℕ) (order : ByteOrder) (s : List ℕ) (base start : ℕ) (old : List ℕ) {new : List ℕ} {r : Answer} where
  pub relr_elsewhere : relr-contract.Applies class order s base start old r new → (z : Size) → class_of class ≡ Some z → (l : List ℕ) → relr.decode (class_in z order) s ≡ accepted l
      → (i : ℕ) → relr.Apart (class_in z order) (start + i) l → get_or new i 0 ≡ get_or old i 0
  unfolding relr-contract.image_after relr-contract.changed
  relr_elsewhere a z n l d i p =
      let e : new ≡ relr-contract.changed (class_in z order) base start (relr.targets (class_in z order) s base start (length old)) old = a.image ∙ rw n in
      ap (λ (m : List ℕ). get_or m i 0) e ∙ go (relr.targets (class_in z order) s base start (length old)) refl
    where
      go : (o : Outcome (List ℕ)) → relr.targets (class_in z order) s base start (length old) ≡ o → get_or (relr-contract.changed (class_in z order) base start o old) i 0 ≡ get_or old i 0
      go (accepted m) e =
          let (f, g) = targets_accepted (class_in z order) s base start (length old) e in
          let q : l ≡ m = (let z : accepted l ≡ accepted m = sym d ∙ f in cc) in
          patched_apart (class_in z order) base start i m old g (rw q at p)
      go (refused y q) e = refl

-- ---- APR1
pub apr1_legal : (l : List ℕ) → apr1.Writable l → Accepts (apr1-contract.encoding l)
apr1_legal l h = record { list = _; is = apr1-trip.encode_accepts l h }

pub apr1_legal_is : (l : List ℕ) {b : List ℕ} → apr1-contract.encoding l ≡ accepted b → apr1.Writable l
apr1_legal_is l e = apr1-trip.encode_legal l e

module _ (strict : Bool) (l old column : List ℕ) {new column' : List ℕ} {w r : Answer} where
  pub apr1_back : (f : Fitting (apr1-contract.encoding l) (length old)) → apr1-contract.Writes l old w new → apr1-contract.Reads strict (take w.count new) column r column'
      → length l ≤ length column → Returned w r (length f.list) (length l) × Begins l column'
  apr1_back f g d h = returned (apr1-contract.decoding strict (take w.count new)) column (wrote f g) (rw (front f g) (apr1-trip.decode_encode l f.is strict)) d h

-- ---- APA1
module _ (os : List ℕ) (us : List ℤ) where
  pub apa1_legal : length os ≡ length us → length os ≤ list_limit → Accepts (apa1-contract.encoding os us)
  apa1_legal same h =
      let a = apa1-trip.encode_accepts (apa1.rows os us) (omega (arith, rows_length os us same)) in
      record { list = a.list; is = apa1-laws.write_plain os us same ∙ a.is }

  apa1_many : length os ≡ length us → (length os ≤ list_limit → ⊥) → apa1-contract.encoding os us ≡ refused why.Limit 0
  apa1_many same h = apa1-laws.write_plain os us same ∙ encode_over (apa1.rows os us) (omega (arith, rows_length os us same))

  pub apa1_legal_is : {b : List ℕ} → apa1-contract.encoding os us ≡ accepted b → (length os ≡ length us) × (length os ≤ list_limit)
  apa1_legal_is e = let (n, f) = apa1-laws.write_accepted os us e in (n, omega (arith, apa1-trip.encode_legal (apa1.rows os us) f, rows_length os us n))

  module _ (old : List ℕ) {new : List ℕ} {w : Answer} (g : apa1-contract.Writes os us old w new) where
    pub apa1_only : Only w.number
    apa1_only =
        elim (ℕ_discrete (length os) (length us)) [
          | no n ↦ inr (inr (inr (refused_number g.gives (apa1-laws.write_uneven os us n))))
          | yes n ↦ elim (dec_le (length os) list_limit) [
            | yes h ↦ only_accepted g.gives (apa1_legal n h)
            | no h ↦ inr (inl (refused_number g.gives (apa1_many n h)))
          ]
        ]

    module _ (strict : Bool) (os₀ : List ℕ) (us₀ : List ℤ) {r : Answer} {os' : List ℕ} {us' : List ℤ} where
      pub apa1_back : (f : Fitting (apa1-contract.encoding os us) (length old)) → apa1-contract.Reads strict (take w.count new) os₀ us₀ r os' us'
          → length os₀ ≡ length us₀ → length os ≤ length os₀ → Returned w r (length f.list) (length os) × Begins os os' × Begins us us'
      apa1_back f d even h =
          let (same, few) = apa1_legal_is f.is in
          let z = wrote_zero f g.gives in
          let e = apa1-laws.read_plain strict (take w.count new) (length os₀) (length us₀) even ∙ g.back strict z in
          let n : length (apa1.rows os us) ≡ length os = rows_length os us same in (
            record { written = wrote f g.gives; read = d.answer ∙ answer_fits (length os₀) (record { list = apa1.rows os us; is = e; long = n }) h },
            begins_as apa1-contract.offset_of os₀ e (apa1-trip.rows_offsets os us same) h d.columns.offsets,
            begins_as apa1-contract.addend_of us₀ e (apa1-trip.rows_addends os us same) (omega arith) d.columns.addends,
          )

-- ---- RELLEB
module _ (class : ℕ) (os ts ys : List ℕ) (us : List ℤ) where
  pub relleb_legal : (z : Size) → class_of class ≡ Some z → relleb-contract.Same os ts ys us → length os ≤ list_limit → Each (relleb.InWidth (width_of z)) (relleb.rows os ts ys us)
      → Accepts (relleb-contract.encoding class os ts ys us)
  relleb_legal z n s h f =
      let a = relleb-trip.encode_accepts (width_of z) (relleb.rows os ts ys us) (omega (arith, relleb-laws.many os ts ys us s)) f in
      record { list = a.list; is = relleb-laws.write_plain class os ts ys us refl n (relleb-laws.same_even os ts ys us s) ∙ a.is }

  pub relleb_legal_is : {b : List ℕ} → relleb-contract.encoding class os ts ys us ≡ accepted b
      → (z : Size) × (class_of class ≡ Some z) × relleb-contract.Same os ts ys us × (length os ≤ list_limit) × Each (relleb.InWidth (width_of z)) (relleb.rows os ts ys us)
  relleb_legal_is e =
      let (z, n, s, f) = relleb-laws.write_accepted class os ts ys us e in
      let (h, l) = relleb-trip.encode_legal (width_of z) (relleb.rows os ts ys us) f in
      (z, n, s, omega (arith, relleb-laws.many os ts ys us s), l)

  module _ (old : List ℕ) {new : List ℕ} {w : Answer} (g : relleb-contract.Writes class os ts ys us old w new) where
    module _ (strict : Bool) (os₀ ts₀ ys₀ : List ℕ) (us₀ : List ℤ) {r : Answer} {os' ts' ys' : List ℕ} {us' : List ℤ} where
      pub relleb_back : (f : Fitting (relleb-contract.encoding class os ts ys us) (length old)) → relleb-contract.Reads class strict (take w.count new) os₀ ts₀ ys₀ us₀ r os' ts' ys' us'
          → relleb-contract.Same os₀ ts₀ ys₀ us₀ → length os ≤ length os₀ → Returned w r (length f.list) (length os) × Begins os os' × Begins ts ts' × Begins ys ys' × Begins us us'
      relleb_back f d even h =
          let (z, n, s, few, l) = relleb_legal_is f.is in
          let zero = wrote_zero f g.gives in
          let t = take w.count new in
          let e = relleb-laws.read_plain class strict t (length os₀) (length ts₀) (length ys₀) (length us₀) refl n (relleb-laws.same_even os₀ ts₀ ys₀ us₀ even) ∙ g.back strict z n zero in
          let m = relleb-laws.many os ts ys us s in (
            record { written = wrote f g.gives; read = d.answer ∙ answer_fits (length os₀) (record { list = relleb.rows os ts ys us; is = e; long = m }) h },
            begins_as relleb-contract.offset_of os₀ e (relleb-trip.rows_offsets os ts ys us s) h d.columns.offsets,
            begins_as relleb-contract.type_of ts₀ e (relleb-trip.rows_types os ts ys us s) (omega (arith, even.types, s.types)) d.columns.types,
            begins_as relleb-contract.symbol_of ys₀ e (relleb-trip.rows_symbols os ts ys us s) (omega (arith, even.symbols, s.symbols)) d.columns.symbols,
            begins_as relleb-contract.addend_of us₀ e (relleb-trip.rows_addends os ts ys us s) (omega (arith, even.addends, s.addends)) d.columns.addends,
          )

-- a table that is written has no addend difference of 0
pub relleb_changes : (class : ℕ) (os ts ys : List ℕ) (us : List ℤ) {b : List ℕ} → relleb-contract.encoding class os ts ys us ≡ accepted b
    → (z : Size) × (class_of class ≡ Some z) × relleb.Along (relleb.Changed (width_of z)) relleb.start (relleb.rows os ts ys us)
relleb_changes class os ts ys us e =
    let (z, n, s, h, l) = relleb_legal_is class os ts ys us e in
    (z, n, legal_changes (width_of z) (relleb-laws.class_width z refl) (relleb.rows os ts ys us) l)

-- class 8
module _ (os ts ys : List ℕ) (us : List ℤ) (old : List ℕ) {new : List ℕ} {w : Answer} (g : relleb-contract.Writes 8 os ts ys us old w new) where
  pub relleb_only : Only w.number
  relleb_only = go (relleb-contract.even (length os) (length ts) (length ys) (length us)) refl
    where
      go : (t : Bool) → relleb-contract.even (length os) (length ts) (length ys) (length us) ≡ t → Only w.number
      go false t = inr (inr (inr (refused_number g.gives (relleb-laws.write_uneven 8 os ts ys us refl refl t))))
      go true t =
          let s = relleb-laws.even_same os ts ys us t in
          elim (dec_le (length os) list_limit) [
            | yes h ↦ only_accepted g.gives (g.wide refl s h)
            | no h ↦ inr (inl (refused_number g.gives (relleb-laws.write_plain 8 os ts ys us refl refl t ∙ relleb-over 64 (relleb.rows os ts ys us) (omega (arith, relleb-laws.many os ts ys us s)))))
          ]
