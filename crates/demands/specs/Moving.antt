-- What the theorems about a module that moves speak of.
-- Assumes nothing.
use Rattle.std.specs.Prelude.{List, ◌≡◌, ℕ, ◌+◌, ◌-◌, ◌%◌, ◌<◌, length}
use Rattle.answer.specs.declared.Answer.{Answer}
use Rattle.answer.specs.Outcome.{accepted, success}
use Rattle.word.specs.declared.Size.{Size}
use Rattle.word.specs.declared.ByteOrder.{ByteOrder}
use Rattle.word.specs.declared.Class.{Class}
use Rattle.std.specs.Prelude.{Some}
use Rattle.word.specs.Class.{class_in, class_of}
use Rattle.relr_table.specs.Table.{space_of, decode, Inside, All, Pairwise, targets}
use Rattle.relr_table.specs.Contract.{image_after, Applies}

-- a table and an image of so many bytes from a start on: the table is accepted, every word is inside the image, and any two list entries are as
-- P says
pub record Movable (class : ℕ) (order : ByteOrder) (P : Class → ℕ → ℕ → Type 0) (s : List ℕ) (start size : ℕ) : Type 0 where
  pub z : Size
  pub named : class_of class ≡ Some z
  pub list : List ℕ
  pub decodes : decode (class_in z order) s ≡ accepted list
  pub each : All (Inside (class_in z order) start size) list
  pub pairs : Pairwise (P (class_in z order)) list

-- a base of a class: below 2^W, so in class 4 within 2^32 - 1
abbrev pub Allowed : Class → ℕ → Type 0
Allowed k base = base < space_of k

-- the sum of two bases, modulo 2^W
abbrev pub sum_of : Class → ℕ → ℕ → ℕ
sum_of k a b = (a + b) % space_of k

-- b - a, modulo 2^W
abbrev pub difference : Class → ℕ → ℕ → ℕ
difference k a b = (b + (space_of k - a)) % space_of k

-- three calls: of the old image the base a makes `mid`, of that the base b makes `new`, and of the old one the base c makes `other`
pub record Three (class : ℕ) (order : ByteOrder) (s : List ℕ) (start a b c : ℕ) (old mid new other : List ℕ) (first second third : Answer) : Type 0 where
  pub one : Applies class order s a start old first mid
  pub two : Applies class order s b start mid second new
  pub three : Applies class order s c start old third other

-- all three succeed with the same count
pub record Succeed (first second third : Answer) (n : ℕ) : Type 0 where
  pub one : first ≡ success n
  pub two : second ≡ success n
  pub three : third ≡ success n

-- a base applied at every offset of the list l makes of the image `old`, which begins at 0, the image `new`
abbrev pub Step : Size → ByteOrder → List ℕ → List ℕ → ℕ → List ℕ → List ℕ → Type 0
Step z order s l base old new = (targets (class_in z order) s base 0 (length old) ≡ accepted l) × (image_after (Some z) order s base 0 old ≡ new)

-- the same for a, then b, and for their sum at once
pub record Worked (z : Size) (order : ByteOrder) (s l : List ℕ) (a b : ℕ) (old mid new other : List ℕ) : Type 0 where
  pub one : Step z order s l a old mid
  pub two : Step z order s l b mid new
  pub once : Step z order s l (sum_of (class_in z order) a b) old other
