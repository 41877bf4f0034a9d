-- Decimal numbers, one digit at a time, and their length; the cases of an outcome's text.
-- Assumes nothing.
use Rattle.std.proofs.Math.Path.{◌≡◌, refl, sym, ap}
use Rattle.std.proofs.Common.{◌∙◌, arith, length-append, take-suc}
use mathlib.Core.List.{List, [], ◌∷◌, ◌++◌, map, append-nil, append_assoc}
use Rattle.std.specs.Prelude.{Bool, take, drop, get_or, ltb, leb, ℤ, pos, negsuc, Option, Some, None}
use Rattle.std.proofs.Math.Bool.{true, false, cond}
use Prim.Native.Nat.{ℕ, zero, suc, ◌+◌, ◌*◌, ◌/◌, ◌%◌, ◌^◌, ◌≤◌, ◌<◌}
use Rattle.std.proofs.Math.Decide.{dec_lt}
use Rattle.std.proofs.Math.ListN.{length}
use Rattle.std.proofs.lemmas.List.{length-map}
use Rattle.std.proofs.Math.Seq.{take-length, length-take-le}
use borrow.Author.Tests.{lt-ltb, le-ltb, le-leb, lt-leb}
use Rattle.answer.specs.declared.Refusal.TheVariants.{Room}
use Rattle.answer.specs.Outcome.{number_of, Outcome, accepted, refused, success, refusal, no_room, answer_in}
use Rattle.relleb_table.specs.Table.{Row}
use Rattle.listing.specs.declared.kind.Kind.{Kind}
use Rattle.listing.specs.Text.{dash, digits_by, decimal, decimal_signed, line_of, first_line, has_type, has_addend, mapped, rows_of, header, field, row_text, rows_from, row_at, rows_to, refusal_text, record_limit, table_limit, printed, table_text, text_after, text_of}

-- induction on the digits
digit_ind {ℓ} : (P : ℕ → Type ℓ) → ((m : ℕ) → m < 10 → P m) → ((m : ℕ) → 10 ≤ m → P (m / 10) → P m) → (m : ℕ) → P m
digit_ind P base step m = go m m (omega arith)
  where
    choose : (f m : ℕ) → m ≤ suc f → ((k : ℕ) → k ≤ f → P k) → Dec (m < 10) → P m
    choose f m h ih (yes l) = base m l
    choose f m h ih (no l) = step m (omega arith) (ih (m / 10) (omega arith))

    go : (f m : ℕ) → m ≤ f → P m
    go zero m h = base m (omega arith)
    go (suc f) m h = choose f m h (go f) (dec_lt m 10)

-- any bound that is no less than the number gives the same digits
enough : (f g m : ℕ) → m ≤ f → m ≤ g → digits_by f m ≡ digits_by g m
unfolding digits_by
enough zero zero m h k = refl
enough zero (suc g) m h k = rw (lt-ltb m 10 (omega arith))
enough (suc f) zero m h k = rw (lt-ltb m 10 (omega arith))
enough (suc f) (suc g) m h k =
    ap (λ (l : List ℕ). cond (ltb m 10) ((48 + m) ∷ []) (l ++ ((48 + m % 10) ∷ []))) (enough f g (m / 10) (omega arith) (omega arith))

pub decimal_one : (m : ℕ) → m < 10 → decimal m ≡ (48 + m) ∷ []
unfolding decimal digits_by
decimal_one zero h = refl
decimal_one (suc m) h = rw (lt-ltb (suc m) 10 h)

pub decimal_more : (m : ℕ) → 10 ≤ m → decimal m ≡ decimal (m / 10) ++ ((48 + m % 10) ∷ [])
unfolding decimal digits_by
decimal_more zero h = absurd (omega arith)
decimal_more (suc m) h =
    rw (le-ltb (suc m) 10 h)
    (ap (λ (l : List ℕ). l ++ ((48 + suc m % 10) ∷ [])) (enough m (suc m / 10) (suc m / 10) (omega arith) (omega arith)))

pub length_one : (m : ℕ) → m < 10 → length (decimal m) ≡ 1
length_one m h = rw (decimal_one m h)

pub length_more : (m : ℕ) → 10 ≤ m → length (decimal m) ≡ length (decimal (m / 10)) + 1
length_more m h = rw (decimal_more m h) (length-append (decimal (m / 10)) ((48 + m % 10) ∷ []))

-- there is a digit
pub decimal_some : (m : ℕ) → 0 < length (decimal m)
decimal_some = digit_ind (λ (m : ℕ). 0 < length (decimal m)) (λ m h. omega (arith, length_one m h)) (λ m h ih. omega (arith, length_more m h))

-- a number below 10 ^ (k + 1) has at most k + 1 digits
decimal_le : (m k : ℕ) → m < 10 * 10 ^ k → length (decimal m) ≤ k + 1
decimal_le = digit_ind (λ (m : ℕ). (k : ℕ) → m < 10 * 10 ^ k → length (decimal m) ≤ k + 1)
    (λ m h k l. omega (arith, length_one m h))
    (λ m h ih k l. more m k h ih l)
  where
    more : (m k : ℕ) → 10 ≤ m → ((k : ℕ) → m / 10 < 10 * 10 ^ k → length (decimal (m / 10)) ≤ k + 1)
        → m < 10 * 10 ^ k → length (decimal m) ≤ k + 1
    more m zero h ih l = absurd (omega arith)
    more m (suc k) h ih l = omega (arith, length_more m h, ih k (omega arith))

-- a number of 64 bits has at most 20 digits
pub decimal_most : (m : ℕ) → m < 2 ^ 64 → length (decimal m) ≤ 20
decimal_most m h = decimal_le m 19 (omega arith)

pub signed_plus : (n : ℕ) → decimal_signed (pos n) ≡ decimal n
unfolding decimal_signed
signed_plus n = refl

pub signed_minus : (n : ℕ) → decimal_signed (negsuc n) ≡ dash ++ decimal (n + 1)
unfolding decimal_signed
signed_minus n = refl

-- ---- an outcome's records in another form
module _ {A B : Type 0} (f : A → B) where
  pub answer_mapped : (room : ℕ) (o : Outcome (List A)) → answer_in room (mapped f o) ≡ answer_in room o
  unfolding answer_in mapped
  answer_mapped room (accepted l) = rw (length-map l f)
  answer_mapped room (refused why p) = refl

  -- the list that another is made of
  pub record Source (o : Outcome (List A)) (l : List B) : Type 0 where
    pub list : List A
    pub is : o ≡ accepted list
    pub made : l ≡ map f list

  pub source : (o : Outcome (List A)) {l : List B} → mapped f o ≡ accepted l → Source o l
  unfolding mapped
  source (accepted m) e = record { list = m; is = refl; made = cc }
  source (refused why p) e = let z : ◌≡◌ {A = ℕ} 0 1 = cc in absurd (omega arith)

-- ---- two records with the same line, by what their kind prints
module _ (k : Kind) (i : ℕ) (x y : Row) where
  pub offset_line : has_type k ≡ false → has_addend k ≡ false → x.offset ≡ y.offset → row_text k i x ≡ row_text k i y
  unfolding row_text field
  offset_line t a e = rw (t, a, e)

  pub pair_line : has_type k ≡ false → x.offset ≡ y.offset → x.addend ≡ y.addend → row_text k i x ≡ row_text k i y
  unfolding row_text field
  pair_line t e f = rw (t, e, f)

-- ---- the lines of a list, by columns
module _ (k : Kind) where
  rows_append : (i : ℕ) (a b : List Row) → rows_from k i (a ++ b) ≡ rows_from k i a ++ rows_from k (i + length a) b
  unfolding rows_from
  rows_append i [] b = ap (λ (n : ℕ). rows_from k n b) (omega arith)
  rows_append i (x ∷ a) b =
      ap (λ (t : List ℕ). row_text k i x ++ t) (rows_append (suc i) a b)
      ∙ sym (append_assoc (row_text k i x) (rows_from k (suc i) a) (rows_from k (suc i + length a) b))
      ∙ ap (λ (n : ℕ). row_text k i x ++ rows_from k (suc i) a ++ rows_from k n b) (omega arith)

  rows_one : (i : ℕ) (x : Row) → rows_from k i (x ∷ []) ≡ row_text k i x
  unfolding rows_from
  rows_one i x = append-nil (row_text k i x)

  module _ (os ts ys : List ℕ) (us : List ℤ) (l : List Row) (d : Row) (same : (i : ℕ) → i < length l → row_text k i (row_at os ts ys us i) ≡ row_text k i (get_or l i d)) where
    rows_to_law : (n : ℕ) → n ≤ length l → rows_to k os ts ys us n ≡ rows_from k 0 (take n l)
    unfolding rows_to rows_from
    rows_to_law zero h = refl
    rows_to_law (suc n) h =
        let e : length (take n l) ≡ n = length-take-le n l (omega arith) in
        ap (λ (t : List ℕ). t ++ row_text k n (row_at os ts ys us n)) (rows_to_law n (omega arith))
        ∙ ap (λ (t : List ℕ). rows_from k 0 (take n l) ++ t) (same n h ∙ sym (rows_one n (get_or l n d)) ∙ ap (λ (m : ℕ). rows_from k m (get_or l n d ∷ [])) (omega arith))
        ∙ sym (rows_append 0 (take n l) (get_or l n d ∷ []))
        ∙ ap (rows_from k 0) (sym (take-suc l n d h))

    pub rows_all : rows_to k os ts ys us (length l) ≡ rows_from k 0 l
    rows_all = rows_to_law (length l) (omega arith) ∙ ap (rows_from k 0) (take-length l)

-- ---- the text of an outcome
module _ (k : Kind) where
  pub printed_rows : {o : Outcome (List Row)} {l : List Row} → o ≡ accepted l → length l ≤ record_limit → printed k o ≡ header ++ rows_from k 0 l
  unfolding printed
  printed_rows {l = l} e h = rw (e, le-leb (length l) record_limit h)

  pub printed_refusal : (o : Outcome (List Row)) → ((answer_in record_limit o).number ≡ 0 → ⊥) → printed k o ≡ refusal_text (answer_in record_limit o).number (answer_in record_limit o).place
  unfolding printed answer_in success no_room refusal
  printed_refusal (accepted l) n = go (leb (length l) record_limit) n
    where
      go : (t : Bool) → ((cond t (success (length l)) (no_room (length l))).number ≡ 0 → ⊥)
          → cond t (header ++ rows_from k 0 l) (refusal_text (number_of Room) 0) ≡ refusal_text (cond t (success (length l)) (no_room (length l))).number (cond t (success (length l)) (no_room (length l))).place
      go true n = absurd (n refl)
      go false n = refl
  printed_refusal (refused why p) n = refl

-- ---- the text of an input
module _ (s : List ℕ) {line : Option Kind} (e : line ≡ first_line s) where
  pub text_unknown : line ≡ None → refusal_text 1 0 ≡ text_of s
  unfolding text_of text_after
  text_unknown u = sym (rw (sym e ∙ u))

  module _ {k : Kind} (n : line ≡ Some k) where
    pub text_limit : table_limit < length (drop (length (line_of k)) s) → refusal_text 2 0 ≡ text_of s
    unfolding text_of text_after table_text
    text_limit h = sym (rw (sym e ∙ n, lt-leb (length (drop (length (line_of k)) s)) table_limit h))

    pub text_table : length (drop (length (line_of k)) s) ≤ table_limit → printed k (rows_of k (drop (length (line_of k)) s)) ≡ text_of s
    unfolding text_of text_after table_text
    text_table h = sym (rw (sym e ∙ n, le-leb (length (drop (length (line_of k)) s)) table_limit h))
