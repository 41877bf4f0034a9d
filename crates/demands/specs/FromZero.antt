-- Applying as document 01 has it, to an image that begins at zero, by the definitions from before document 02's §1.
-- Assumes nothing.
use Rattle.std.specs.Prelude.{Bool, cond, List, ◌≡◌, ℕ, ◌+◌, leb, length}
use Rattle.answer.specs.declared.Answer.{Answer}
use Rattle.answer.specs.declared.Refusal.TheVariants.{Base}
use Rattle.answer.specs.Outcome.{Outcome, accepted, refused, answer_of}
use Rattle.word.specs.declared.Size.{Size}
use Rattle.word.specs.declared.ByteOrder.{ByteOrder}
use Rattle.word.specs.declared.Class.{Class}
use Rattle.std.specs.Prelude.{Option}
use Rattle.std.specs.Prelude.{Some, None}
use Rattle.word.specs.Class.{class_in, bytes_of, class_of, in_class}
use Rattle.relr_table.specs.Table.{decode, contained, above, patched}

-- whether the word at x ends inside an image of so many bytes
abbrev pub ends : Class → ℕ → ℕ → Bool
ends k size x = leb (x + bytes_of k) size

-- the offsets at which a table is applied, or the refusal: 15, then the reader's, then 12
unfoldable pub targets : Class → List ℕ → ℕ → ℕ → Outcome (List ℕ)
targets k s base size = cond (above k base) (refused Base 0) (contained (ends k size) (decode k s))

-- the offsets at which the table s is applied to an image of so many bytes
unfoldable pub applying : ℕ → ByteOrder → List ℕ → ℕ → ℕ → Outcome (List ℕ)
applying class order s base size = in_class (class_of class) λ z. targets (class_in z order) s base size

-- the image after an addition for each target, or as it was where the table is refused
unfoldable pub changed : Class → ℕ → Outcome (List ℕ) → List ℕ → List ℕ
changed k base (accepted l) image = patched k base l image
changed k base (refused why p) image = image

-- the same for the class that a number and an order name
unfoldable pub image_after : Option Size → ByteOrder → List ℕ → ℕ → List ℕ → List ℕ
image_after (Some z) order s base image = changed (class_in z order) base (targets (class_in z order) s base (length image)) image
image_after None order s base image = image

-- `apply` of the table s answers r, and leaves `new` of an image that was `old`
pub record Applies (class : ℕ) (order : ByteOrder) (s : List ℕ) (base : ℕ) (old : List ℕ) (r : Answer) (new : List ℕ) : Type 0 where
  pub answer : r ≡ answer_of (applying class order s base (length old))
  pub image : new ≡ image_after (class_of class) order s base old
