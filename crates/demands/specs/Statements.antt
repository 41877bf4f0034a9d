-- What the theorems about the calls speak of.
-- Assumes nothing.
use Rattle.std.specs.Prelude.{List, ◌⊎◌, ◌≡◌, ℕ, ◌+◌, ◌-◌, ◌<◌, length, take, get_or}
use Rattle.answer.specs.declared.Answer.{Answer}
use Rattle.answer.specs.Outcome.{accepted, success}
use Rattle.word.specs.declared.Size.{Size}
use Rattle.word.specs.declared.ByteOrder.{ByteOrder}
use Rattle.word.specs.declared.Class.{Class}
use Rattle.std.specs.Prelude.{Some}
use Rattle.word.specs.Class.{class_in, bytes_of, class_of}
use Rattle.relr_table.specs.Table.{Inside, All, decode, indexes, patched}

-- a column begins with a list
abbrev pub Begins : {A : Type 0} → List A → List A → Type 0
Begins l column = take (length l) column ≡ l

-- a write that succeeds with so many bytes, and a read that succeeds with n records
pub record Returned (w r : Answer) (bytes n : ℕ) : Type 0 where
  pub written : w ≡ success bytes
  pub read : r ≡ success n

-- the number of a success, or of one of the refusals 2, 9 and 11
abbrev pub Only : ℕ → Type 0
Only n = (n ≡ 0) ⊎ ((n ≡ 2) ⊎ ((n ≡ 9) ⊎ (n ≡ 11)))

-- ---- applying

-- an apply that adds the base at every offset of its table: the table decodes to a list, each offset of which has its word inside the image, and
-- the base is added, in order, to the word at each offset less the start
pub record Applied (class : ℕ) (order : ByteOrder) (s : List ℕ) (base start : ℕ) (old : List ℕ) (r : Answer) (new : List ℕ) : Type 0 where
  pub z : Size
  pub named : class_of class ≡ Some z
  pub list : List ℕ
  pub decodes : decode (class_in z order) s ≡ accepted list
  pub each : All (Inside (class_in z order) start (length old)) list
  pub answer : r ≡ success (length list)
  pub image : new ≡ patched (class_in z order) base (indexes start list) old

-- the offset at index i of a list is the first that does not lie inside an image: it is below the start, or its word ends beyond the image
pub record First (k : Class) (start size : ℕ) (l : List ℕ) (i : ℕ) : Type 0 where
  pub listed : i < length l
  pub outside : (get_or l i 0 < start) ⊎ (size < get_or l i 0 - start + bytes_of k)
  pub before : (j : ℕ) → j < i → Inside k start size (get_or l j 0)

-- an apply that is refused for such an offset
pub record Outside (class : ℕ) (order : ByteOrder) (s : List ℕ) (start : ℕ) (old : List ℕ) (r : Answer) (new : List ℕ) : Type 0 where
  pub z : Size
  pub named : class_of class ≡ Some z
  pub list : List ℕ
  pub decodes : decode (class_in z order) s ≡ accepted list
  pub first : First (class_in z order) start (length old) list r.place
  pub image : new ≡ old
