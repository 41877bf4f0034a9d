-- The readers' answers and columns, and the text of a table, as the code asks it.
-- Assumes nothing.
use Prim.Native.Nat.{ℕ, ◌+◌, ◌-◌, ◌*◌, ◌^◌, ◌≤◌, ◌<◌}
use mathlib.Core.Path.{◌≡◌, refl, ap, sym, ◌∙◌}
use mathlib.Core.Bool.{Bool, true, false, cond}
use mathlib.Core.List.{List, [], ◌∷◌, ◌++◌, map}
use native.Mathlib.Decide.{dec_lt}
use native.Mathlib.Omega.{arith}
use lib.IntN.{ℤ, pos}
use lib.ListN.{length, take, drop, get_or, length-drop, length-map, get_or-append, get_or-map}
use lib.Seq.{take_all}
use borrow.Author.Rules.{rules}
use Rattle.answer.specs.declared.Answer.{Answer}
use Rattle.answer.specs.declared.Refusal.TheVariants.{Class, Limit}
use Rattle.answer.specs.Outcome.{number_of, Outcome, accepted, success, answer_in, filled, itself}
use Rattle.answer.specs.Outcome.Laws.{filled_fits, answer_zero, Succeeded}
use Rattle.records.specs.Identifier.{starts_with}
use Rattle.records.specs.Identifier.Laws.{starts_short}
use Rattle.word.specs.declared.ByteOrder.TheVariants.{Little}
use Rattle.relr_table.specs.Contract as relr
use Rattle.apr1_table.specs.Contract as apr1
use Rattle.apa1_table.specs.Table as apa1
use Rattle.apa1_table.specs.Contract as apa1-contract
use Rattle.apa1_table.specs.Contract.Laws as apa1-laws
use Rattle.relleb_table.specs.Table.{Row, row}
use Rattle.relleb_table.specs.Contract as relleb-contract
use Rattle.relleb_table.specs.Contract.Laws as relleb-laws
use Rattle.listing.specs.declared.kind.Kind.{Kind}
use Rattle.listing.specs.declared.kind.Kind.TheVariants.{Relr32, Relr64, Apr1, Apa1, Relleb32, Relleb64}
use Rattle.std.specs.Prelude.{Option, Some, None}
use Rattle.std.specs.Fmt as fmt
use Rattle.listing.specs.Text.{line_of, tried, first_line, has_type, has_addend, offset_row, pair_row, mapped, rows_of, header, refused_word, row_text, row_at, refusal_text, record_limit, table_limit, printed, text_of}
use Rattle.listing.specs.Text.Laws.{answer_mapped, source, offset_line, pair_line, rows_all, printed_rows, printed_refusal, text_unknown, text_limit, text_table}
use Rattle.listing.specs.declared.columns.Columns.{Columns}
use Rattle.listing.specs.Inner.{Prints, Reads, lines_to}
use Rattle.listing.proofs.PutNeeds.{put_put, decimal_same}

abbrev none : Row
none = row 0 0 0 (pos 0)

-- ---- a column at an index
pub column_at : {A B : Type 0} (f : A → B) (d : A) {o : Outcome (List A)} (old : List B) {new : List B} (l : List A) → new ≡ filled f o old → o ≡ accepted l → length l ≤ length old
    → (i : ℕ) → i < length l → get_or new i (f d) ≡ f (get_or l i d)
column_at {B = B} f d old l e g h i k =
    let n : i < length (map f l) = omega (arith, length-map l f) in
    ap (λ (m : List B). get_or m i (f d)) (e ∙ filled_fits f old g h) ∙ get_or-append (map f l) (drop (length l) old) (f d) i n ∙ get_or-map f l i d

abbrev columns : List ℕ → List ℕ → List ℕ → List ℤ → Columns
columns os ts ys us = record { offsets = os; types = ts; symbols = ys; addends = us }

-- ---- a kind with offsets alone
module _ (k : Kind) (s os ts ys : List ℕ) (us : List ℤ) {r : Answer} {os' : List ℕ} (o : Outcome (List ℕ)) where
  offsets_read : rows_of k s ≡ mapped offset_row o → has_type k ≡ false → has_addend k ≡ false → length os ≡ record_limit
      → r ≡ answer_in (length os) o → os' ≡ filled itself o os → Reads k s r (columns os' ts ys us)
  offsets_read e t a m q c =
      record {
        answer = q ∙ ap (λ (n : ℕ). answer_in n o) m ∙ sym (answer_mapped offset_row record_limit o) ∙ ap (answer_in record_limit) (sym e);
        lines = λ l g h i j.
            let v = source offset_row o (sym e ∙ g) in
            let n : length l ≡ length v.list = ap length v.made ∙ length-map v.list offset_row in
            let p : get_or l i none ≡ offset_row (get_or v.list i 0) = ap (λ (w : List Row). get_or w i none) v.made ∙ get_or-map offset_row v.list i 0 in
            offset_line k i (row_at os' ts ys us i) (get_or l i none) t a
            (column_at itself 0 os v.list c v.is (omega arith) i (omega arith) ∙ sym (ap (λ (x : Row). x.offset) p));
      }

module _ (s os ts ys : List ℕ) (us : List ℤ) {k : Kind} {r : Answer} {os' : List ℕ} (f : length os ≡ record_limit) where
  pub relr_four : k ≡ Relr32 → relr.Reads 4 Little s os r os' → Reads k s r (columns os' ts ys us)
  unfolding rows_of
  relr_four e c = rw e (offsets_read Relr32 s os ts ys us (relr.decoding 4 Little s) refl refl refl f c.answer c.held)

  pub relr_eight : k ≡ Relr64 → relr.Reads 8 Little s os r os' → Reads k s r (columns os' ts ys us)
  unfolding rows_of
  relr_eight e c = rw e (offsets_read Relr64 s os ts ys us (relr.decoding 8 Little s) refl refl refl f c.answer c.held)

  pub apr1_read : k ≡ Apr1 → apr1.Reads false s os r os' → Reads k s r (columns os' ts ys us)
  unfolding rows_of
  apr1_read e c = rw e (offsets_read Apr1 s os ts ys us (apr1.decoding false s) refl refl refl f c.answer c.held)

-- ---- offsets with addends
module _ (s os ts ys : List ℕ) (us : List ℤ) {k : Kind} {r : Answer} {os' : List ℕ} {us' : List ℤ} (fo : length os ≡ record_limit) (fu : length us ≡ record_limit) where
  pub apa1_read : k ≡ Apa1 → apa1-contract.Reads false s os us r os' us' → Reads k s r (columns os' ts ys us')
  unfolding rows_of
  apa1_read e c =
      let o = apa1-laws.read_plain false s (length os) (length us) (omega (arith, fo, fu)) in
      rw e
      (record {
        answer = c.answer ∙ ap (answer_in (length os)) o ∙ ap (λ (n : ℕ). answer_in n (apa1.decode false s)) fo ∙ sym (answer_mapped pair_row record_limit (apa1.decode false s));
        lines = λ l g h i j.
            let v = source pair_row (apa1.decode false s) g in
            let n : length l ≡ length v.list = ap length v.made ∙ length-map v.list pair_row in
            let p : get_or l i none ≡ pair_row (get_or v.list i apa1.start) = ap (λ (w : List Row). get_or w i none) v.made ∙ get_or-map pair_row v.list i apa1.start in
            pair_line Apa1 i (row_at os' ts ys us' i) (get_or l i none) refl
            (column_at apa1-contract.offset_of apa1.start os v.list c.columns.offsets (o ∙ v.is) (omega (arith, fo)) i (omega arith) ∙ sym (ap (λ (x : Row). x.offset) p))
            (column_at apa1-contract.addend_of apa1.start us v.list c.columns.addends (o ∙ v.is) (omega (arith, fu)) i (omega arith) ∙ sym (ap (λ (x : Row). x.addend) p));
      })

-- ---- whole records
module _ (os ts ys : List ℕ) (us : List ℤ) (fo : length os ≡ record_limit) (ft : length ts ≡ record_limit) (fy : length ys ≡ record_limit) (fu : length us ≡ record_limit) where
  -- the four columns are of one length
  even : relleb-contract.Same os ts ys us
  even = record { types = omega (arith, fo, ft); symbols = omega (arith, fo, fy); addends = omega (arith, fo, fu) }

module _ (s os ts ys : List ℕ) (us : List ℤ) {k : Kind} {r : Answer} {os' ts' ys' : List ℕ} {us' : List ℤ} (fo : length os ≡ record_limit) (ft : length ts ≡ record_limit) (fy : length ys ≡ record_limit) (fu : length us ≡ record_limit) where
  whole_read : (size : ℕ) → relleb-contract.decoding size false s (length os) (length ts) (length ys) (length us) ≡ rows_of k s
      → relleb-contract.Reads size false s os ts ys us r os' ts' ys' us' → Reads k s r (columns os' ts' ys' us')
  whole_read size o d =
      record {
        answer = d.answer ∙ ap (answer_in (length os)) o ∙ ap (λ (n : ℕ). answer_in n (rows_of k s)) fo;
        lines = λ l g h i j.
            let a = column_at relleb-contract.offset_of none os l d.columns.offsets (o ∙ g) (omega (arith, fo)) i j in
            let b = column_at relleb-contract.type_of none ts l d.columns.types (o ∙ g) (omega (arith, ft)) i j in
            let y = column_at relleb-contract.symbol_of none ys l d.columns.symbols (o ∙ g) (omega (arith, fy)) i j in
            let z = column_at relleb-contract.addend_of none us l d.columns.addends (o ∙ g) (omega (arith, fu)) i j in
            ap (row_text k i)
            (ap (λ (x : ℕ). row x (get_or ts' i 0) (get_or ys' i 0) (get_or us' i (pos 0))) a
            ∙ ap (λ (x : ℕ). row (get_or l i none).offset x (get_or ys' i 0) (get_or us' i (pos 0))) b
            ∙ ap (λ (x : ℕ). row (get_or l i none).offset (get_or l i none).type x (get_or us' i (pos 0))) y
            ∙ ap (row (get_or l i none).offset (get_or l i none).type (get_or l i none).symbol) z);
      }

  pub relleb_four : k ≡ Relleb32 → relleb-contract.Reads 4 false s os ts ys us r os' ts' ys' us' → Reads k s r (columns os' ts' ys' us')
  unfolding rows_of
  relleb_four e c =
      whole_read 4
      (relleb-laws.read_plain 4 false s (length os) (length ts) (length ys) (length us) refl refl (relleb-laws.same_even os ts ys us (even os ts ys us fo ft fy fu)) ∙ sym (ap (λ (j : Kind). rows_of j s) e)) c

  pub relleb_eight : k ≡ Relleb64 → relleb-contract.Reads 8 false s os ts ys us r os' ts' ys' us' → Reads k s r (columns os' ts' ys' us')
  unfolding rows_of
  relleb_eight e c =
      whole_read 8
      (relleb-laws.read_plain 8 false s (length os) (length ts) (length ys) (length us) refl refl (relleb-laws.same_even os ts ys us (even os ts ys us fo ft fy fu)) ∙ sym (ap (λ (j : Kind). rows_of j s) e)) c

pub ruleset readings = (relr_four, relr_eight, apr1_read, apa1_read, relleb_four, relleb_eight, rules)

-- ---- a refusal
pub refusal_put : (n p : ℕ) {p0 p1 p2 p3 p4 p5 : List ℕ} → n < 2 ^ 32 → p < 2 ^ 64
    → Prints p0 p1 refused_word 8 → Prints p1 p2 (fmt.decimal n) 10 → Prints p2 p3 (9 ∷ []) 1 → Prints p3 p4 (fmt.decimal p) 20 → Prints p4 p5 (10 ∷ []) 1
    → Prints p0 p5 (refusal_text n p) 50
unfolding refusal_text
refusal_put n p hn hp a1 a2 a3 a4 a5 =
    rw (← decimal_same n (omega arith), ← decimal_same p hp)
    (put_put {m = 39} (put_put {m = 19} (put_put {m = 18} (put_put a1 a2 (omega arith)) a3 (omega arith)) a4 (omega arith)) a5 (omega arith))

pub ruleset refusals = (refusal_put, rules)

-- what is put behind nothing is the text
pub alone : {old new t u : List ℕ} {m : ℕ} → Prints old new t m → old ≡ [] → t ≡ u → new ≡ u
alone {t = t} p e h = p.is ∙ ap (λ (l : List ℕ). l ++ t) e ∙ h

-- ---- the text of a table
module _ (k : Kind) (s : List ℕ) {cs : Columns} {r : Answer} (d : Reads k s r cs) where
  pub table_refused : {old new : List ℕ} → (r.number ≡ 0 → ⊥) → old ≡ [] → Prints old new (refusal_text r.number r.place) 50 → new ≡ printed k (rows_of k s)
  table_refused n z p =
      let e = d.answer in
      alone p z (ap (λ (a : Answer). refusal_text a.number a.place) e ∙ sym (printed_refusal k (rows_of k s) (λ z. n (ap (λ (a : Answer). a.number) e ∙ z))))

  good : r.number ≡ 0 → Succeeded record_limit (rows_of k s) (answer_in record_limit (rows_of k s))
  good n = answer_zero record_limit (rows_of k s) (sym (ap (λ (a : Answer). a.number) d.answer) ∙ n)

  counted : (n : r.number ≡ 0) → r.count ≡ length (good n).list
  unfolding success
  counted n = ap (λ (a : Answer). a.count) (d.answer ∙ (good n).all)

  pub table_few : r.number ≡ 0 → r.count ≤ record_limit
  table_few n = omega (arith, counted n, (good n).fits)

  pub table_room : {page : List ℕ} → r.number ≡ 0 → page ≡ [] → length page + (29 + 109 * r.count) ≤ 131072
  table_room n z = omega (arith, table_few n, ap length z)

  pub table_listed : {old new : List ℕ} → r.number ≡ 0 → old ≡ [] → Prints old new (header ++ lines_to k cs r.count) (29 + 109 * r.count) → new ≡ printed k (rows_of k s)
  table_listed n z p =
      let g = good n in
      alone p z
      (ap (λ (m : ℕ). header ++ lines_to k cs m) (counted n)
      ∙ ap (λ (t : List ℕ). header ++ t) (rows_all k cs.offsets cs.types cs.symbols cs.addends g.list none (d.lines g.list g.is g.fits))
      ∙ sym (printed_rows k g.is g.fits))

pub ruleset tables = (table_refused, table_few, table_room, table_listed, rules)

-- ---- the text of an input
tried_starts : (s : List ℕ) (j : Kind) (rest : Option Kind) (k : Kind) → tried j s rest ≡ Some k → (rest ≡ Some k → starts_with (line_of k) s ≡ true) → starts_with (line_of k) s ≡ true
tried_starts s j rest k e g = go (starts_with (line_of j) s) refl e
  where
    go : (t : Bool) → starts_with (line_of j) s ≡ t → cond t (Some j) rest ≡ Some k → starts_with (line_of k) s ≡ true
    go true h e = let f : j ≡ k = cc in rw (← f) h
    go false h e = g e

pub line_starts : (s : List ℕ) (k : Kind) → first_line s ≡ Some k → starts_with (line_of k) s ≡ true
unfolding first_line
line_starts s k e =
    tried_starts s Relr32 _ k e λ e. tried_starts s Relr64 _ k e λ e. tried_starts s Apr1 _ k e λ e. tried_starts s Apa1 _ k e λ e. tried_starts s Relleb32 _ k e λ e.
    tried_starts s Relleb64 _ k e λ e. let z : ◌≡◌ {A = ℕ} 0 1 = cc in absurd (omega arith)

module _ (s : List ℕ) {line : Option Kind} {k : Kind} {at : ℕ} (e : line ≡ first_line s) (n : line ≡ Some k) (a : at ≡ length (line_of k)) where
  pub line_within : at ≤ length s
  line_within = elim (dec_lt (length s) (length (line_of k))) [
    | yes h ↦ let z : ◌≡◌ {A = Bool} true false = sym (line_starts s k (sym e ∙ n)) ∙ starts_short (line_of k) s h in let y : ◌≡◌ {A = ℕ} 0 1 = cc in absurd (omega arith)
    | no h ↦ omega arith
  ]

  -- the part of the input behind the line, as the code takes it
  part : take (length s - at) (drop at s) ≡ drop (length (line_of k)) s
  part = take_all (length s - at) (drop at s) (omega (arith, length-drop at s)) ∙ ap (λ (m : ℕ). drop m s) a

  module _ {new : List ℕ} where
    pub text_over : {old : List ℕ} {number : ℕ} → old ≡ [] → number ≡ number_of Limit → table_limit < length (take (length s - at) (drop at s)) → Prints old new (refusal_text number 0) 50 → new ≡ text_of s
    text_over z l h p = alone p z (rw l (text_limit s e n (rw part at h)))

    pub text_whole : length (take (length s - at) (drop at s)) ≤ table_limit → new ≡ printed k (rows_of k (take (length s - at) (drop at s))) → new ≡ text_of s
    text_whole h p = p ∙ ap (λ (t : List ℕ). printed k (rows_of k t)) part ∙ text_table s e n (rw part at h)

pub text_none : (s : List ℕ) {line : Option Kind} {old new : List ℕ} {number : ℕ} → old ≡ [] → number ≡ number_of Class → line ≡ first_line s → line ≡ None
    → Prints old new (refusal_text number 0) 50 → new ≡ text_of s
text_none s z l e u p = alone p z (rw l (text_unknown s e u))

pub ruleset texts = (line_within, text_over, text_whole, text_none, rules)
