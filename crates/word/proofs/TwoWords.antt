-- Two words of one list of bytes, at one place or beside each other.
-- Assumes nothing.
use Rattle.std.specs.Prelude.{◌≡◌, ℕ, ◌+◌, ◌-◌, ◌<◌, ◌≤◌, Bool, true, false, cond, List, length, take, drop, slice_index}
use Rattle.std.proofs.Common.{inl, inr, ◌∙◌, ext_get_or}
use Rattle.std.proofs.Math.Path.{refl, sym, ap}
use native.Mathlib.Omega.{arith}
use Rattle.std.proofs.Math.ListN.{length-drop}
use Rattle.std.proofs.Math.Seq.{length-take-le, get_or-take, get_or-drop}
use Rattle.word.specs.declared.Class.{Class}
use Rattle.word.specs.Class.{bytes_of}
use Rattle.word.specs.Word.{value_of, arranged, word_at, with_word, Beside}
use Rattle.word.specs.Word.Laws.{laid, within, within_true, store_length, store_before, store_after, store_byte}

-- the byte at an index after two stores: of the second word, or else of the first, or as it was
bytes_two_stores : (k : Class) (s : List ℕ) (x v y w : ℕ) → x + bytes_of k ≤ length s → y + bytes_of k ≤ length s → (i : ℕ)
    → slice_index (with_word k (with_word k s x v) y w) i ≡ cond (within k y i) (slice_index (laid k w) (i - y)) (cond (within k x i) (slice_index (laid k v) (i - x)) (slice_index s i))
bytes_two_stores k s x v y w room space i =
    let n : y + bytes_of k ≤ length (with_word k s x v) = rw (store_length k s x v) space in
    store_byte k (with_word k s x v) y w n i ∙ ap (cond (within k y i) (slice_index (laid k w) (i - y))) (store_byte k s x v room i)

length_two_stores : (k : Class) (s : List ℕ) (x v y w : ℕ) → length (with_word k (with_word k s x v) y w) ≡ length s
length_two_stores k s x v y w = store_length k (with_word k s x v) y w ∙ store_length k s x v

-- of two stores at a place the second counts
pub store_twice : (k : Class) (s : List ℕ) (at v w : ℕ) → at + bytes_of k ≤ length s → with_word k (with_word k s at v) at w ≡ with_word k s at w
store_twice k s at v w room =
    ext_get_or 0 (with_word k (with_word k s at v) at w) (with_word k s at w) (length_two_stores k s at v at w ∙ sym (store_length k s at w))
    (λ i _. bytes_two_stores k s at v at w room room i ∙ go i (within k at i) ∙ sym (store_byte k s at w room i))
  where
    go : (i : ℕ) (b : Bool) → cond b (slice_index (laid k w) (i - at)) (cond b (slice_index (laid k v) (i - at)) (slice_index s i)) ≡ cond b (slice_index (laid k w) (i - at)) (slice_index s i)
    go i true = refl
    go i false = refl

module _ (k : Class) (s : List ℕ) (x v y : ℕ) (room : x + bytes_of k ≤ length s) (space : y + bytes_of k ≤ length s) (b : Beside k x y) where
  byte_beside : (i : ℕ) → y ≤ i → i < y + bytes_of k → slice_index (with_word k s x v) i ≡ slice_index s i
  byte_beside i l h = go b
    where
      go : Beside k x y → slice_index (with_word k s x v) i ≡ slice_index s i
      go (inl a) = store_after k s x v room i (omega arith)
      go (inr a) = store_before k s x v room i (omega arith)

  -- a load beside a store is as before
  pub load_beside : word_at k (with_word k s x v) y ≡ word_at k s y
  unfolding word_at
  load_beside =
      let c = bytes_of k in
      let t = with_word k s x v in
      let f : length (take c (drop y t)) ≡ c = length-take-le c (drop y t) (simp length-drop (rw (store_length k s x v) (omega arith))) in
      let g : length (take c (drop y s)) ≡ c = length-take-le c (drop y s) (simp length-drop (omega arith)) in
      ap (λ (l : List ℕ). value_of (arranged k.order l)) (ext_get_or 0 (take c (drop y t)) (take c (drop y s)) (f ∙ sym g) (λ i h.
      let m : i < c = omega (arith, f) in
      get_or-take c (drop y t) i 0 m ∙ get_or-drop y t i 0 ∙ byte_beside (y + i) (omega arith) (omega arith) ∙ sym (get_or-take c (drop y s) i 0 m ∙ get_or-drop y s i 0)))

  -- two stores beside each other can be made in either order
  pub store_swap : (w : ℕ) → with_word k (with_word k s x v) y w ≡ with_word k (with_word k s y w) x v
  store_swap w =
      ext_get_or 0 (with_word k (with_word k s x v) y w) (with_word k (with_word k s y w) x v) (length_two_stores k s x v y w ∙ sym (length_two_stores k s y w x v))
      (λ i _. bytes_two_stores k s x v y w room space i ∙ go i (within k x i) (within k y i) refl refl ∙ sym (bytes_two_stores k s y w x v space room i))
    where
      go : (i : ℕ) (p q : Bool) → within k x i ≡ p → within k y i ≡ q
          → cond q (slice_index (laid k w) (i - y)) (cond p (slice_index (laid k v) (i - x)) (slice_index s i)) ≡ cond p (slice_index (laid k v) (i - x)) (cond q (slice_index (laid k w) (i - y)) (slice_index s i))
      go i true true e f = let (lx, hx) = within_true k x i e in let (ly, hy) = within_true k y i f in elim b [ inl a ↦ absurd (omega arith) | inr a ↦ absurd (omega arith) ]
      go i true false e f = refl
      go i false true e f = refl
      go i false false e f = refl
