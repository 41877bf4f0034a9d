-- Applying: additions one after another, which bytes they leave alone, and which tables are applied.
-- Assumes nothing.
use mathlib.Core.Bool.{Bool, true, false, cond, ◌&&◌}
use mathlib.Core.List.{List, [], ◌∷◌, ◌++◌}
use mathlib.Core.Logic.{◌⊎◌, inl, inr}
use mathlib.Core.Path.{◌≡◌, refl, ◌∙◌}
use Prim.Native.Nat.{ℕ, ◌+◌, ◌-◌, ◌≤◌, ◌<◌}
use native.Mathlib.Omega.{arith}
use lib.Dec.{leb}
use lib.ListN.{length, get_or}
use borrow.Author.Tests.{leb-true, le-leb}
use Rattle.answer.specs.declared.Refusal.TheVariants as why
use Rattle.answer.specs.Outcome.{accepted, refused}
use Rattle.word.specs.declared.Class.{Class}
use Rattle.word.specs.Class.{bytes_of}
use Rattle.word.specs.Word.Laws.{store_length, store_before, store_after}
use Rattle.relr_table.specs.Table.{decode, inside, Inside, All, contained, above, targets, indexes, added, patched, Apart}
use Rattle.relr_table.proofs.Leading.{contained_accepted}
use Rattle.relr_table.proofs.Marked.{all_map}

-- ---- additions, one after another
pub added_length : (k : Class) (base : ℕ) (image : List ℕ) (x : ℕ) → length (added k base image x) ≡ length image
unfolding added
added_length k base image x = store_length k image x _

pub patched_length : (k : Class) (base : ℕ) (l image : List ℕ) → length (patched k base l image) ≡ length image
unfolding patched
patched_length k base [] image = refl
patched_length k base (x ∷ l) image = patched_length k base l (added k base image x) ∙ added_length k base image x

pub patched_append : (k : Class) (base : ℕ) (p q image : List ℕ) → patched k base (p ++ q) image ≡ patched k base q (patched k base p image)
unfolding patched
patched_append k base [] q image = refl
patched_append k base (x ∷ p) q image = patched_append k base p q (added k base image x)

-- ---- the same at the indexes of offsets
indexes_append : (start : ℕ) (p q : List ℕ) → indexes start (p ++ q) ≡ indexes start p ++ indexes start q
unfolding indexes
indexes_append start [] q = refl
indexes_append start (x ∷ p) q = rw (indexes_append start p q)

module _ (k : Class) (base start : ℕ) where
  pub patched_more : (p q image : List ℕ) → patched k base (indexes start (p ++ q)) image ≡ patched k base (indexes start q) (patched k base (indexes start p) image)
  patched_more p q image = rw (indexes_append start p q) (patched_append k base (indexes start p) (indexes start q) image)

  pub patched_one : (x : ℕ) (image : List ℕ) → patched k base (indexes start (x ∷ [])) image ≡ added k base image (x - start)
  unfolding patched indexes
  patched_one x image = refl

-- ---- a byte that lies in no word at a listed offset is as it was
module _ (k : Class) (base start i : ℕ) where
  added_apart : (image : List ℕ) (x : ℕ) → Inside k start (length image) x → (start + i < x) ⊎ (x + bytes_of k ≤ start + i) → get_or (added k base image (x - start)) i 0 ≡ get_or image i 0
  unfolding added
  added_apart image x (low, room) (inl h) = store_before k image (x - start) _ room i (omega arith)
  added_apart image x (low, room) (inr h) = store_after k image (x - start) _ room i (omega arith)

  pub patched_apart : (l image : List ℕ) → All (Inside k start (length image)) l → Apart k (start + i) l → get_or (patched k base (indexes start l) image) i 0 ≡ get_or image i 0
  unfolding patched indexes
  patched_apart [] image h a = refl
  patched_apart (x ∷ l) image h a =
      patched_apart l (added k base image (x - start)) (rw (added_length k base image (x - start)) h.1) a.1 ∙ added_apart image x h.0 a.0

-- ---- the test of an offset, as a fact
module _ (k : Class) (start size x : ℕ) where
  pub inside_true : inside k start size x ≡ true → Inside k start size x
  inside_true e = go (leb start x) (leb (x - start + bytes_of k) size) refl refl e
    where
      go : (a b : Bool) → leb start x ≡ a → leb (x - start + bytes_of k) size ≡ b → (a && b) ≡ true → Inside k start size x
      go true true f g h = (leb-true start x f, leb-true (x - start + bytes_of k) size g)
      go true false f g h = let z : ◌≡◌ {A = ℕ} 0 1 = cc in absurd (omega arith)
      go false b f g h = let z : ◌≡◌ {A = ℕ} 0 1 = cc in absurd (omega arith)

  pub true_inside : Inside k start size x → inside k start size x ≡ true
  true_inside (low, room) = rw (le-leb start x low) (le-leb (x - start + bytes_of k) size room)

-- ---- the offsets at which a table is applied
module _ (k : Class) (s : List ℕ) (base start size : ℕ) where
  pub targets_over : above k base ≡ true → targets k s base start size ≡ refused why.Base 0
  unfolding targets
  targets_over e = rw e

  pub targets_in : above k base ≡ false → targets k s base start size ≡ contained (inside k start size) (decode k s)
  unfolding targets
  targets_in e = rw e

  -- a table that is applied is accepted, and each of its words lies inside the image
  pub targets_accepted : {l : List ℕ} → targets k s base start size ≡ accepted l → (decode k s ≡ accepted l) × All (Inside k start size) l
  unfolding targets
  targets_accepted {l} e = go (above k base) refl e
    where
      go : (b : Bool) → above k base ≡ b → cond b (refused why.Base 0) (contained (inside k start size) (decode k s)) ≡ accepted l
          → (decode k s ≡ accepted l) × All (Inside k start size) l
      go true h f = let z : ◌≡◌ {A = ℕ} 0 1 = cc in absurd (omega arith)
      go false h f =
          let (d, a) = contained_accepted (inside k start size) (decode k s) f in
          (d, all_map (λ x. inside k start size x ≡ true) (Inside k start size) (inside_true k start size) l a)
