-- Applying twice: two additions to one word are one of their sum, additions to words that do not overlap can be made in either order, and so
-- the additions of one base and then of another along a list are those of the sum.
-- Assumes nothing.
use mathlib.Core.List.{List, [], ◌∷◌}
use mathlib.Core.Logic.{inl, inr}
use mathlib.Core.Path.{◌≡◌, refl, sym, ap, ◌∙◌}
use Prim.Native.Nat.{ℕ, ◌+◌, ◌-◌, ◌%◌, ◌^◌, ◌≤◌}
use native.Mathlib.Nat.{add_assoc, add_comm, add-mod-mod, mod-add-mod, mod-lt}
use native.Mathlib.Omega.{arith}
use lib.ListN.{length}
use lib.Pow.{pow_pos}
use Rattle.word.specs.declared.Class.{Class}
use Rattle.word.specs.Class.{bytes_of, bits_of}
use Rattle.word.specs.Word.{word_at, with_word, Beside}
use Rattle.word.specs.Word.Laws.{load_store}
use Rattle.word.proofs.TwoWords.{load_beside, store_twice, store_swap}
use Rattle.relr_table.specs.Table.{Inside, All, indexes, added, patched, Pairwise, OneOrBeside}
use Rattle.relr_table.proofs.Applying.{added_length}

-- a sum reduced at each addition is the sum reduced once
sum_once : (w a b m : ℕ) → ((w + a) % m + b) % m ≡ (w + (a + b) % m) % m
sum_once w a b m = mod-add-mod (w + a) m b ∙ ap (λ (n : ℕ). n % m) (add_assoc w a b) ∙ sym (add-mod-mod w (a + b) m)

-- ---- two additions
module _ (k : Class) (a b : ℕ) (image : List ℕ) where
  -- to one word: one of the sum
  pub added_twice : (x : ℕ) → x + bytes_of k ≤ length image → added k b (added k a image x) x ≡ added k ((a + b) % 2 ^ bits_of k) image x
  unfolding added
  added_twice x room =
      let m = 2 ^ bits_of k in
      let w = word_at k image x in
      rw (load_store k image x ((w + a) % m) room (mod-lt (w + a) (pow_pos (bits_of k))))
      (store_twice k image x ((w + a) % m) (((w + a) % m + b) % m) room ∙ ap (with_word k image x) (sum_once w a b m))

module _ (k : Class) (a b : ℕ) (image : List ℕ) where
  -- to words beside each other: in either order
  added_beside : (x y : ℕ) → x + bytes_of k ≤ length image → y + bytes_of k ≤ length image → Beside k x y → added k b (added k a image x) y ≡ added k a (added k b image y) x
  unfolding added
  added_beside x y room space s =
      let m = 2 ^ bits_of k in
      let v = (word_at k image x + a) % m in
      let w = (word_at k image y + b) % m in
      rw (load_beside k image x v y room space s, load_beside k image y w x space room (turned s)) (store_swap k image x v y room space s w)
    where
      turned : Beside k x y → Beside k y x
      turned (inl h) = inr h
      turned (inr h) = inl h

  -- to one word or to two beside each other: in either order
  added_swap : (x y : ℕ) → x + bytes_of k ≤ length image → y + bytes_of k ≤ length image → OneOrBeside k x y → added k b (added k a image x) y ≡ added k a (added k b image y) x
  added_swap x y room space (inr s) = added_beside x y room space s
  added_swap x y room space (inl e) = rw (← e) (added_twice k a b image x room ∙ ap (λ (n : ℕ). added k (n % 2 ^ bits_of k) image x) (add_comm a b) ∙ sym (added_twice k b a image x room))

-- ---- additions along a list
inside_added : (k : Class) (base start : ℕ) (image : List ℕ) (y : ℕ) (l : List ℕ) → All (Inside k start (length image)) l → All (Inside k start (length (added k base image y))) l
inside_added k base start image y l h = rw (added_length k base image y) h

-- two offsets from a start on, as indexes
one_or_beside : (k : Class) (start x y : ℕ) → start ≤ x → start ≤ y → OneOrBeside k x y → OneOrBeside k (x - start) (y - start)
one_or_beside k start x y l m (inl e) = inl (ap (λ (n : ℕ). n - start) e)
one_or_beside k start x y l m (inr (inl h)) = inr (inl (omega arith))
one_or_beside k start x y l m (inr (inr h)) = inr (inr (omega arith))

module _ (k : Class) (start : ℕ) where
  -- an addition may be made before those along a list, or after them
  added_past : (a b x : ℕ) (l image : List ℕ) → Inside k start (length image) x → All (Inside k start (length image)) l → All (OneOrBeside k x) l
      → patched k b (indexes start l) (added k a image (x - start)) ≡ added k a (patched k b (indexes start l) image) (x - start)
  unfolding patched indexes
  added_past a b x [] image i h s = refl
  added_past a b x (y ∷ l) image (low, room) h s =
      let e = added_swap k a b image (x - start) (y - start) room h.0.1 (one_or_beside k start x y low h.0.0 s.0) in
      ap (patched k b (indexes start l)) e
      ∙ added_past a b x l (added k b image (y - start)) (low, rw (added_length k b image (y - start)) room) (inside_added k b start image (y - start) l h.1) s.1

  -- along a list, the additions of one base and then those of another are those of the sum
  pub patched_twice : (a b : ℕ) (l image : List ℕ) → All (Inside k start (length image)) l → Pairwise (OneOrBeside k) l
      → patched k b (indexes start l) (patched k a (indexes start l) image) ≡ patched k ((a + b) % 2 ^ bits_of k) (indexes start l) image
  unfolding patched indexes
  patched_twice a b [] image h s = refl
  patched_twice a b (x ∷ l) image h s =
      let i = x - start in
      let once = added k a image i in
      let n : All (Inside k start (length once)) l = inside_added k a start image i l h.1 in
      let here : Inside k start (length once) x = (h.0.0, rw (added_length k a image i) h.0.1) in
      ap (patched k b (indexes start l)) (sym (added_past b a x l once here n s.0))
      ∙ patched_twice a b l (added k b once i) (inside_added k b start once i l n) s.1
      ∙ ap (patched k ((a + b) % 2 ^ bits_of k) (indexes start l)) (added_twice k a b image i h.0.1)
