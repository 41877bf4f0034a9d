-- Document 02, §1, as theorems about the call that applies a table: "Offset minus start is the index; an offset below the start, or with its
-- word ending beyond the image, is 12. Demand 2 on applying reads 'inside the image' that way from now on. A start of 0 gives the old answers."
--   relr_applied_law, relr_applies       what an answer 0 says, and when it is given
--   relr_outside, relr_refuses       what an answer 12 says, and when it is given
--   relr_any_start                   no start is refused by itself: an empty list is accepted with each
--   relr_zero, relr_zero_is          with a start of 0 the answer and the image are document 01's, and those are given
-- A class is given where a theorem says when an answer is given, and its base is one that the class allows: 1 and 15 come first.
-- Assumes nothing.
use mathlib.Core.Bool.{Bool, true, false, cond}
use mathlib.Core.List.{List, [], ◌∷◌}
use mathlib.Core.Logic.{◌⊎◌, inl, inr}
use mathlib.Core.Path.{◌≡◌, refl, sym, ap, ◌∙◌}
use Prim.Native.Nat.{ℕ, zero, suc, ◌+◌, ◌-◌, ◌≤◌, ◌<◌}
use native.Mathlib.Decide.{dec_le}
use native.Mathlib.Omega.{arith}
use lib.Dec.{eqb, leb}
use lib.ListN.{length, get_or}
use native.Mathlib.Nat.{sub-zero}
use borrow.Author.Tests.{le-leb, eqb-false}
use Rattle.answer.specs.declared.Answer.{Answer}
use Rattle.answer.specs.declared.Refusal.{Refusal}
use Rattle.answer.specs.declared.Refusal.TheVariants as why
use Rattle.answer.specs.Outcome.{Outcome, accepted, refused, number_of, answer_of, success, refusal}
use Rattle.answer.specs.Outcome.Laws.{accepted_refused, Counted, all_zero, all_refused, answer_all, answer_none}
use Rattle.answer.specs.Said.{of_refused}
use Rattle.word.specs.declared.Size.{Size}
use Rattle.word.specs.declared.ByteOrder.{ByteOrder}
use Rattle.word.specs.declared.Class.{Class}
use Rattle.std.specs.Prelude.{Option}
use Rattle.std.specs.Prelude.{Some, None}
use Rattle.word.specs.Class.{class_in, bytes_of, class_of, in_class}
use Rattle.relr_table.specs.Table.{inside, Inside, All, leading, contained, above, decode, targets, indexes, patched}
use Rattle.relr_table.specs.Contract.{applying, changed, image_after, Applies}
use Rattle.relr_table.proofs.Leading.{leading_le, leading_all, contained_all, contained_not, contained_same}
use Rattle.relr_table.proofs.Applying.{inside_true, true_inside, targets_in, targets_accepted}
use Rattle.relr_table.proofs.Marked.{all_map}
use Rattle.relr_table.proofs.Refusals.{Early, decode_early}
use Rattle.demands.specs.Statements.{Applied, First, Outside}
use Rattle.demands.specs.FromZero as zero

-- ---- the first offset of a list that fails a test
module _ (test : ℕ → Bool) where
  -- those before it pass
  leading_passes : (l : List ℕ) (j : ℕ) → j < leading test l → test (get_or l j 0) ≡ true
  unfolding leading
  leading_passes [] j h = absurd (omega arith)
  leading_passes (x ∷ l) zero h = go (test x) refl h
    where
      go : (b : Bool) → test x ≡ b → 0 < cond b (suc (leading test l)) 0 → test x ≡ true
      go true e h = e
      go false e h = absurd (omega arith)
  leading_passes (x ∷ l) (suc j) h = leading_passes l j (go (test x) h)
    where
      go : (b : Bool) → suc j < cond b (suc (leading test l)) 0 → j < leading test l
      go true h = omega arith
      go false h = absurd (omega arith)

  -- it does not
  leading_fails : (l : List ℕ) → leading test l < length l → test (get_or l (leading test l) 0) ≡ false
  unfolding leading
  leading_fails [] h = absurd (omega arith)
  leading_fails (x ∷ l) h = go (test x) refl h (leading_fails l)
    where
      go : (b : Bool) → test x ≡ b → cond b (suc (leading test l)) 0 < suc (length l) → (leading test l < length l → test (get_or l (leading test l) 0) ≡ false)
          → test (get_or (x ∷ l) (cond b (suc (leading test l)) 0) 0) ≡ false
      go true e h ih = ih (omega arith)
      go false e h ih = e

  -- and there is no other such
  leading_is : (l : List ℕ) (i : ℕ) → i < length l → ((j : ℕ) → j < i → test (get_or l j 0) ≡ true) → test (get_or l i 0) ≡ false → leading test l ≡ i
  unfolding leading
  leading_is [] i h before here = absurd (omega arith)
  leading_is (x ∷ l) zero h before here = rw here
  leading_is (x ∷ l) (suc i) h before here =
      let e : test x ≡ true = before 0 (omega arith) in
      rw e (ap suc (leading_is l i (omega arith) (λ j g. before (suc j) (omega arith)) here))

-- the same where the test is that of lying inside an image
module _ (k : Class) (start size : ℕ) where
  outside_false : (x : ℕ) → (x < start) ⊎ (size < x - start + bytes_of k) → inside k start size x ≡ false
  outside_false x o = go (inside k start size x) refl o
    where
      go : (b : Bool) → inside k start size x ≡ b → (x < start) ⊎ (size < x - start + bytes_of k) → b ≡ false
      go true e (inl h) = let (low, room) = inside_true k start size x e in absurd (omega arith)
      go true e (inr h) = let (low, room) = inside_true k start size x e in absurd (omega arith)
      go false e o = refl

  false_outside : (x : ℕ) → inside k start size x ≡ false → (x < start) ⊎ (size < x - start + bytes_of k)
  false_outside x e = go (dec_le start x) (dec_le (x - start + bytes_of k) size)
    where
      go : Dec (start ≤ x) → Dec (x - start + bytes_of k ≤ size) → (x < start) ⊎ (size < x - start + bytes_of k)
      go (no l) d = inl (omega arith)
      go (yes l) (no h) = inr (omega arith)
      go (yes l) (yes h) = let f = true_inside k start size x (l, h) in let z : ◌≡◌ {A = ℕ} 0 1 = cc in absurd (omega arith)

  first_leading : (l : List ℕ) (i : ℕ) → First k start size l i → leading (inside k start size) l ≡ i
  first_leading l i f =
      leading_is (inside k start size) l i f.listed (λ j h. true_inside k start size (get_or l j 0) (f.before j h)) (outside_false (get_or l i 0) f.outside)

  leading_first : (l : List ℕ) (i : ℕ) → leading (inside k start size) l ≡ i → i < length l → First k start size l i
  leading_first l i e h =
      record {
        listed = h;
        outside = false_outside (get_or l i 0) (rw e at (leading_fails (inside k start size) l (omega arith)));
        before = λ j g. inside_true k start size (get_or l j 0) (leading_passes (inside k start size) l j (omega arith));
      }

-- ---- the contract for a class
module _ (class : ℕ) (order : ByteOrder) (s : List ℕ) (base start : ℕ) (old : List ℕ) {z : Size} (n : class_of class ≡ Some z) where
  pub applying_is : applying class order s base start (length old) ≡ targets (class_in z order) s base start (length old)
  unfolding applying
  applying_is = rw n

  image_accepted : {l : List ℕ} → targets (class_in z order) s base start (length old) ≡ accepted l → image_after (class_of class) order s base start old ≡ patched (class_in z order) base (indexes start l) old
  unfolding image_after changed
  image_accepted e = rw (n, e)

  image_refused : {w : Refusal} {p : ℕ} → targets (class_in z order) s base start (length old) ≡ refused w p → image_after (class_of class) order s base start old ≡ old
  unfolding image_after changed
  image_refused e = rw (n, e)

applying_unknown : (class : ℕ) (order : ByteOrder) (s : List ℕ) (base start size : ℕ) → class_of class ≡ None → applying class order s base start size ≡ refused why.Class 0
unfolding applying
applying_unknown class order s base start size n = rw n

-- a table that is refused with 12 decodes to a list, one of whose offsets is the first outside
targets_outside : (k : Class) (s : List ℕ) (base start size p : ℕ) → targets k s base start size ≡ refused why.Outside p
    → (l : List ℕ) × (decode k s ≡ accepted l) × First k start size l p
unfolding targets contained
targets_outside k s base start size p e = based (above k base) e
  where
    test : ℕ → Bool
    test = inside k start size

    listed : (l : List ℕ) → decode k s ≡ accepted l → (b : Bool) → eqb (leading test l) (length l) ≡ b
        → cond b (accepted l) (refused why.Outside (leading test l)) ≡ refused why.Outside p → (m : List ℕ) × (decode k s ≡ accepted m) × First k start size m p
    listed l d true h f = let z : ◌≡◌ {A = ℕ} 0 1 = cc in absurd (omega arith)
    listed l d false h f =
        let q : leading test l ≡ p = cc in
        (l, d, leading_first k start size l p q (omega (arith, leading_le test l, eqb-false (leading test l) (length l) h)))

    decoded : (o : Outcome (List ℕ)) → decode k s ≡ o → contained test o ≡ refused why.Outside p → (l : List ℕ) × (decode k s ≡ accepted l) × First k start size l p
    decoded (accepted l) d f = listed l d (eqb (leading test l) (length l)) refl f
    decoded (refused w q) d f =
        let early : number_of w < 12 = of_refused Early d (decode_early k s) in
        let g : w ≡ why.Outside = cc in
        absurd (omega (arith, ap number_of g))

    based : (b : Bool) → cond b (refused why.Base 0) (contained test (decode k s)) ≡ refused why.Outside p → (l : List ℕ) × (decode k s ≡ accepted l) × First k start size l p
    based true f = let z : ◌≡◌ {A = ℕ} 0 1 = cc in absurd (omega arith)
    based false f = decoded (decode k s) refl f

-- ---- the call
module _ (class : ℕ) (order : ByteOrder) (s : List ℕ) (base start : ℕ) (old : List ℕ) {r : Answer} {new : List ℕ} (a : Applies class order s base start old r new) where
  pub relr_applied_law : r.number ≡ 0 → Applied class order s base start old r new
  relr_applied_law none = go (class_of class) refl
    where
      has : Counted (applying class order s base start (length old)) r.count
      has = all_zero (applying class order s base start (length old)) a.answer none

      go : (m : Option Size) → class_of class ≡ m → Applied class order s base start old r new
      go (Some z) n =
          let t : targets (class_in z order) s base start (length old) ≡ accepted has.list = sym (applying_is class order s base start old n) ∙ has.is in
          let (d, each) = targets_accepted (class_in z order) s base start (length old) t in
          record {
            z = z;
            named = n;
            list = has.list;
            decodes = d;
            each = each;
            answer = a.answer ∙ answer_all (record { list = has.list; is = has.is; long = refl });
            image = a.image ∙ image_accepted class order s base start old n t;
          }
      go None n = absurd (accepted_refused has.is (applying_unknown class order s base start (length old) n))

  pub relr_outside : r.number ≡ 12 → Outside class order s start old r new
  relr_outside twelve = go (class_of class) refl
    where
      no : applying class order s base start (length old) ≡ refused why.Outside r.place
      no = all_refused (applying class order s base start (length old)) why.Outside a.answer twelve

      go : (m : Option Size) → class_of class ≡ m → Outside class order s start old r new
      go (Some z) n =
          let t : targets (class_in z order) s base start (length old) ≡ refused why.Outside r.place = sym (applying_is class order s base start old n) ∙ no in
          let (l, d, f) = targets_outside (class_in z order) s base start (length old) r.place t in
          record { z = z; named = n; list = l; decodes = d; first = f; image = a.image ∙ image_refused class order s base start old n t }
      go None n =
          let q : ◌≡◌ {A = Outcome (List ℕ)} (refused why.Class 0) (refused why.Outside r.place) = sym (applying_unknown class order s base start (length old) n) ∙ no in
          let no : ◌≡◌ {A = ℕ} 0 1 = cc in
          absurd (omega arith)

  module _ (z : Size) (n : class_of class ≡ Some z) (allowed : above (class_in z order) base ≡ false) (l : List ℕ) (d : decode (class_in z order) s ≡ accepted l) where
    pub relr_applies : All (Inside (class_in z order) start (length old)) l → (r ≡ success (length l)) × (new ≡ patched (class_in z order) base (indexes start l) old)
    relr_applies each =
        let test = inside (class_in z order) start (length old) in
        let passes = all_map (Inside (class_in z order) start (length old)) (λ x. test x ≡ true) (true_inside (class_in z order) start (length old)) l each in
        let t = targets_in (class_in z order) s base start (length old) allowed ∙ contained_all test d (leading_all test l passes) in
        (a.answer ∙ answer_all (record { list = l; is = applying_is class order s base start old n ∙ t; long = refl }), a.image ∙ image_accepted class order s base start old n t)

    pub relr_refuses : (i : ℕ) → First (class_in z order) start (length old) l i → (r ≡ refusal why.Outside i) × (new ≡ old)
    relr_refuses i f =
        let test = inside (class_in z order) start (length old) in
        let e = first_leading (class_in z order) start (length old) l i f in
        let t : targets (class_in z order) s base start (length old) ≡ refused why.Outside i =
        targets_in (class_in z order) s base start (length old) allowed ∙ contained_not test d (λ q. absurd (omega (arith, f.listed))) ∙ ap (refused why.Outside) e in
        (a.answer ∙ answer_none (applying_is class order s base start old n ∙ t), a.image ∙ image_refused class order s base start old n t)

  pub relr_any_start : (z : Size) → class_of class ≡ Some z → above (class_in z order) base ≡ false → decode (class_in z order) s ≡ accepted [] → (r ≡ success 0) × (new ≡ old)
  unfolding patched indexes
  relr_any_start z n allowed d = relr_applies z n allowed [] d tt

-- ---- a start of 0
inside_zero : (k : Class) (size x : ℕ) → inside k 0 size x ≡ zero.ends k size x
inside_zero k size x = rw (le-leb 0 x (omega arith)) (ap (λ (i : ℕ). leb (i + bytes_of k) size) (sub-zero x))

indexes_zero : (l : List ℕ) → indexes 0 l ≡ l
unfolding indexes
indexes_zero [] = refl
indexes_zero (x ∷ l) = rw (sub-zero x, indexes_zero l)

targets_zero : (k : Class) (s : List ℕ) (base size : ℕ) → targets k s base 0 size ≡ zero.targets k s base size
unfolding targets zero.targets
targets_zero k s base size =
    ap (cond (above k base) (refused why.Base 0)) (contained_same (inside k 0 size) (zero.ends k size) (decode k s) (λ l e. every l))
  where
    every : (l : List ℕ) → All (λ x. inside k 0 size x ≡ zero.ends k size x) l
    every [] = tt
    every (x ∷ l) = (inside_zero k size x, every l)

changed_zero : (k : Class) (base : ℕ) (o : Outcome (List ℕ)) (image : List ℕ) → changed k base 0 o image ≡ zero.changed k base o image
unfolding changed zero.changed
changed_zero k base (accepted l) image = rw (indexes_zero l)
changed_zero k base (refused w p) image = refl

module _ (class : ℕ) (order : ByteOrder) (s : List ℕ) (base : ℕ) (old : List ℕ) where
  applying_zero : applying class order s base 0 (length old) ≡ zero.applying class order s base (length old)
  unfolding applying zero.applying
  applying_zero = go (class_of class)
    where
      go : (m : Option Size) → in_class m (λ z. targets (class_in z order) s base 0 (length old)) ≡ in_class m (λ z. zero.targets (class_in z order) s base (length old))
      go (Some z) = targets_zero (class_in z order) s base (length old)
      go None = refl

  image_zero : (m : Option Size) → image_after m order s base 0 old ≡ zero.image_after m order s base old
  unfolding image_after zero.image_after
  image_zero (Some z) = changed_zero (class_in z order) base (targets (class_in z order) s base 0 (length old)) old ∙ rw (targets_zero (class_in z order) s base (length old))
  image_zero None = refl

  module _ {r : Answer} {new : List ℕ} where
    pub relr_zero : Applies class order s base 0 old r new → zero.Applies class order s base old r new
    relr_zero a = record { answer = a.answer ∙ ap answer_of applying_zero; image = a.image ∙ image_zero (class_of class) }

    pub relr_zero_is : zero.Applies class order s base old r new → Applies class order s base 0 old r new
    relr_zero_is a = record { answer = a.answer ∙ ap answer_of (sym applying_zero); image = a.image ∙ sym (image_zero (class_of class)) }
