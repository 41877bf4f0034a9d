-- Document 02, §14, as theorems about the call that applies a table: "When a module moves, the loader applies the difference of bases. Show that
-- applying first one base and then another equals applying their sum modulo 2^W once, given that the table is accepted, every word is inside the
-- image and any two list entries lie at least one word apart. Give the overlap case where it fails."
--   relr_twice      a, then b, is their sum at once: three calls, of any class, order and start
--   relr_moves      the loader's: from an image applied at a, applying b - a gives the image applied at b
--   whole-..        both hold too where entries repeat an offset, so long as no two words overlap in part
--   overlap-..      two entries less than a word apart: the images of the three calls, by which it fails
--   repeat_four     an offset that is listed twice: the images of the three calls, by which it holds
-- Assumes nothing.
use mathlib.Core.Bool.{false, cond}
use mathlib.Core.List.{List, [], ◌∷◌}
use mathlib.Core.Logic.{inr}
use mathlib.Core.Path.{◌≡◌, refl, sym, ap, ◌∙◌, subst}
use Prim.Native.Nat.{ℕ, ◌+◌, ◌-◌, ◌%◌, ◌^◌, ◌*◌, ◌<◌}
use native.Mathlib.Nat.{add-mod-mod, add-mod_right, mod-eq_of_lt, mod-lt}
use native.Mathlib.Omega.{arith}
use lib.Dec.{eqb, ltb}
use lib.ListN.{length}
use lib.Pow.{pow_pos}
use borrow.Author.Tests.{le-ltb}
use Rattle.answer.specs.declared.Answer.{Answer}
use Rattle.answer.specs.Outcome.{success, input_limit, before, after}
use Rattle.answer.specs.Outcome.Laws.{answer_all}
use Rattle.word.specs.declared.Size.{Size}
use Rattle.word.specs.declared.Size.TheVariants.{Four, Eight}
use Rattle.word.specs.declared.ByteOrder.{ByteOrder}
use Rattle.word.specs.declared.ByteOrder.TheVariants.{Little, Big}
use Rattle.word.specs.declared.Class.{Class}
use Rattle.std.specs.Prelude.{Option}
use Rattle.word.specs.Class.{size_of, class_in, bits_of}
use Rattle.word.specs.Class.Laws.{by_bytes, class_of_law}
use Rattle.word.specs.Word.{value_of, bytes_in, arranged, word_at, with_word, first_words, words_of, Beside}
use Rattle.relr_table.specs.Words as relr
use Rattle.relr_table.specs.Table.{space_of, above, Pairwise, OneOrBeside, parse, decode, leading, contained, targets, indexes, added, patched}
use Rattle.relr_table.specs.Contract.{changed, image_after, Applies}
use Rattle.relr_table.proofs.Applying.{patched_length}
use Rattle.relr_table.proofs.Marked.{all_map}
use Rattle.relr_table.proofs.Twice.{patched_twice}
use Rattle.demands.specs.Moving.{Movable, Allowed, sum_of, difference, Three, Succeed, Step, Worked}
use Rattle.demands.proofs.ImageStart.{applying_is, relr_applies}

-- ---- the bases
base_allowed : (k : Class) (base : ℕ) → Allowed k base → above k base ≡ false
base_allowed k base = by_bytes (λ (n : ℕ). base < 2 ^ (8 * n) → cond (eqb n 4) (ltb 4294967295 base) false ≡ false) (λ h. le-ltb 4294967295 base (omega arith)) (λ h. refl) k

sum_base : (k : Class) (a b : ℕ) → Allowed k (sum_of k a b)
sum_base k a b = mod-lt (a + b) (pow_pos (bits_of k))

-- a and what leads from it to b are b
difference_base : (k : Class) (a b : ℕ) → Allowed k (difference k a b)
difference_base k a b = mod-lt (b + (space_of k - a)) (pow_pos (bits_of k))

difference_sum : (k : Class) (a b : ℕ) → Allowed k a → Allowed k b → sum_of k a (difference k a b) ≡ b
difference_sum k a b below h =
    let m = space_of k in
    let e : a + (b + (m - a)) ≡ b + m = omega arith in
    add-mod-mod a (b + (m - a)) m ∙ ap (λ (n : ℕ). n % m) e ∙ add-mod_right b m ∙ mod-eq_of_lt h

-- ---- where no two words overlap in part
module _ (class : ℕ) (order : ByteOrder) (s : List ℕ) (start : ℕ) (old : List ℕ) (f : Movable class order OneOrBeside s start (length old)) (a b : ℕ) where
  pub whole_twice : Allowed (class_in f.z order) a → Allowed (class_in f.z order) b → {mid new other : List ℕ} {first second third : Answer}
      → Three class order s start a b (sum_of (class_in f.z order) a b) old mid new other first second third
      → Succeed first second third (length f.list) × (new ≡ other)
  whole_twice g h {mid} {new} {other} {first} {second} {third} t =
      let k = class_in f.z order in
      let l = f.list in
      let (r, m) = relr_applies class order s a start old t.one f.z f.named (base_allowed k a g) l f.decodes f.each in
      let e : length mid ≡ length old = ap length m ∙ patched_length k a (indexes start l) old in
      let (q, n) = relr_applies class order s b start mid t.two f.z f.named (base_allowed k b h) l f.decodes (rw e f.each) in
      let c = sum_of k a b in
      let (p, o) = relr_applies class order s c start old t.three f.z f.named (base_allowed k c (sum_base k a b)) l f.decodes f.each in
      (record { one = r; two = q; three = p }, n ∙ ap (patched k b (indexes start l)) m ∙ patched_twice k start a b l old f.each f.pairs ∙ sym o)

-- the same of a base and what leads from it to another
module _ (class : ℕ) (order : ByteOrder) (s : List ℕ) (start : ℕ) (old : List ℕ) (f : Movable class order OneOrBeside s start (length old)) (a b : ℕ) where
  pub whole_moves : Allowed (class_in f.z order) a → Allowed (class_in f.z order) b → {there moved here : List ℕ} {first second third : Answer}
      → Three class order s start a (difference (class_in f.z order) a b) b old there moved here first second third
      → Succeed first second third (length f.list) × (moved ≡ here)
  whole_moves g h {there} {moved} {here} {first} {second} {third} t =
      let k = class_in f.z order in
      let d = difference k a b in
      whole_twice class order s start old f a d g (difference_base k a b)
      (subst (λ (c : ℕ). Three class order s start a d c old there moved here first second third) (sym (difference_sum k a b g h)) t)

-- ---- where any two entries lie at least one word apart
pairs_right : (k : Class) (l : List ℕ) → Pairwise (Beside k) l → Pairwise (OneOrBeside k) l
pairs_right k [] h = tt
pairs_right k (x ∷ l) h = (all_map (Beside k x) (OneOrBeside k x) (λ y b. inr b) l h.0, pairs_right k l h.1)

abbrev fits_right : {class : ℕ} {order : ByteOrder} {s : List ℕ} {start size : ℕ} → Movable class order Beside s start size → Movable class order OneOrBeside s start size
fits_right {class} {order} f = record { z = f.z; named = f.named; list = f.list; decodes = f.decodes; each = f.each; pairs = pairs_right (class_in f.z order) f.list f.pairs }

module _ (class : ℕ) (order : ByteOrder) (s : List ℕ) (start : ℕ) (old : List ℕ) (f : Movable class order Beside s start (length old)) (a b : ℕ)
    (g : Allowed (class_in f.z order) a) (h : Allowed (class_in f.z order) b) {mid new other : List ℕ} {first second third : Answer} where
  pub relr_twice : Three class order s start a b (sum_of (class_in f.z order) a b) old mid new other first second third
      → Succeed first second third (length f.list) × (new ≡ other)
  relr_twice t = whole_twice class order s start old (fits_right f) a b g h t

  pub relr_moves : Three class order s start a (difference (class_in f.z order) a b) b old mid new other first second third
      → Succeed first second third (length f.list) × (new ≡ other)
  relr_moves t = whole_moves class order s start old (fits_right f) a b g h t

-- ---- two examples, and what three calls leave there
-- a call does what is worked out
step_call : (z : Size) (order : ByteOrder) (s l : List ℕ) (base : ℕ) (old new : List ℕ) → Step z order s l base old new → {r : Answer} {x : List ℕ}
    → Applies (size_of z) order s base 0 old r x → (r ≡ success (length l)) × (x ≡ new)
step_call z order s l base old new (t, i) a = (
  a.answer ∙ answer_all (record { list = l; is = applying_is (size_of z) order s base 0 old (class_of_law z) ∙ t; long = refl }),
  a.image ∙ ap (λ (n : Option Size). image_after n order s base 0 old) (class_of_law z) ∙ i,
)

-- and so do three
pub worked_calls : {z : Size} {order : ByteOrder} {s l : List ℕ} {a b : ℕ} {old mid new other : List ℕ} → Worked z order s l a b old mid new other
    → {x y o : List ℕ} {first second third : Answer} → Three (size_of z) order s 0 a b (sum_of (class_in z order) a b) old x y o first second third
    → Succeed first second third (length l) × ((x ≡ mid) × ((y ≡ new) × (o ≡ other)))
worked_calls {z} {order} {s} {l} {a} {b} {old} {mid} {new} {other} w {x} {y} {o} {first} {second} {third} t =
    let (p, e) = step_call z order s l a old mid w.one t.one in
    let (q, f) = step_call z order s l b mid new w.two (subst (λ (i : List ℕ). Applies (size_of z) order s b 0 i second y) e t.two) in
    let (r, g) = step_call z order s l (sum_of (class_in z order) a b) old other w.once t.three in
    (record { one = p; two = q; three = r }, (e, (f, g)))

-- Two entries less than a word apart, where it fails. The offsets 0 and 2 of words of four bytes, the bases 2^32 - 1 and 2. Modulo 2^32 their sum is
-- 1: a carry is dropped. Made one after the other it is not, for the addition at 2 has changed the upper half of the word at 0 in between: the
-- fifth byte has it.
pub overlap_four : Worked Four Little (0 ∷ 0 ∷ 0 ∷ 0 ∷ 2 ∷ 0 ∷ 0 ∷ 0 ∷ []) (0 ∷ 2 ∷ []) (2 ^ 32 - 1) 2
    (0 ∷ 0 ∷ 0 ∷ 0 ∷ 0 ∷ 0 ∷ [])
    (0xFF ∷ 0xFF ∷ 0xFE ∷ 0xFF ∷ 0 ∷ 0 ∷ [])
    (1 ∷ 0 ∷ 1 ∷ 0 ∷ 1 ∷ 0 ∷ [])
    (1 ∷ 0 ∷ 1 ∷ 0 ∷ 0 ∷ 0 ∷ [])
unfolding image_after changed targets contained leading decode parse input_limit words_of first_words word_at with_word value_of bytes_in arranged relr.marked relr.fit relr.anchored
    relr.read indexes added patched before after
overlap_four = record { one = (refl, refl); two = (refl, refl); once = (refl, refl) }

-- the same with words of eight bytes, high byte first; there the first word is the one that gets or lacks a carry
pub overlap_eight : Worked Eight Big (0 ∷ 0 ∷ 0 ∷ 0 ∷ 0 ∷ 0 ∷ 0 ∷ 0 ∷ 0 ∷ 0 ∷ 0 ∷ 0 ∷ 0 ∷ 0 ∷ 0 ∷ 2 ∷ []) (0 ∷ 2 ∷ []) (2 ^ 64 - 1) (2 ^ 63 + 1)
    (0 ∷ 0 ∷ 0 ∷ 0 ∷ 0 ∷ 0 ∷ 0 ∷ 0 ∷ 0 ∷ 0 ∷ [])
    (0xFF ∷ 0xFF ∷ 0xFF ∷ 0xFF ∷ 0xFF ∷ 0xFF ∷ 0xFF ∷ 0xFE ∷ 0xFF ∷ 0xFF ∷ [])
    (0x7F ∷ 0xFF ∷ 0x80 ∷ 0 ∷ 0 ∷ 0 ∷ 0 ∷ 0 ∷ 0 ∷ 0 ∷ [])
    (0x80 ∷ 0 ∷ 0x80 ∷ 0 ∷ 0 ∷ 0 ∷ 0 ∷ 0 ∷ 0 ∷ 0 ∷ [])
unfolding image_after changed targets contained leading decode parse input_limit words_of first_words word_at with_word value_of bytes_in arranged relr.marked relr.fit relr.anchored
    relr.read indexes added patched before after
overlap_eight = record { one = (refl, refl); two = (refl, refl); once = (refl, refl) }

-- An offset that is listed twice, where it still holds, though its entries are not a word apart: both are one word, to which each base is added
-- twice, and additions to one word can be made in any order. So `whole_twice` asks no more than that no two words overlap in part.
pub repeat_four : Worked Four Little (0 ∷ 0 ∷ 0 ∷ 0 ∷ 0 ∷ 0 ∷ 0 ∷ 0 ∷ []) (0 ∷ 0 ∷ []) (2 ^ 31 + 1) (2 ^ 31 + 2)
    (0 ∷ 0 ∷ 0 ∷ 0 ∷ [])
    (2 ∷ 0 ∷ 0 ∷ 0 ∷ [])
    (6 ∷ 0 ∷ 0 ∷ 0 ∷ [])
    (6 ∷ 0 ∷ 0 ∷ 0 ∷ [])
unfolding image_after changed targets contained leading decode parse input_limit words_of first_words word_at with_word value_of bytes_in arranged relr.marked relr.fit relr.anchored
    relr.read indexes added patched before after
repeat_four = record { one = (refl, refl); two = (refl, refl); once = (refl, refl) }
