-- The needs of the writers of a record and of the head, as the code asks them: x and y are the differences, v and w the lengths of their bytes.
-- Assumes nothing.
use Prim.Native.Nat.{ℕ, ◌+◌, ◌^◌, ◌≤◌, ◌<◌}
use mathlib.Core.Path.{◌≡◌, ap, ap₂, sym, ◌∙◌}
use mathlib.Core.List.{List, ◌++◌}
use native.Mathlib.Omega.{arith}
use lib.IntN.{ℤ, pos, ◌-ℤ◌}
use lib.ListN.{length, length-append}
use mir.Syntax.{w64}
use mir.Val.{to_z, of_z, Fits}
use mir.Facts.{to_z_pos}
use borrow.Author.Rules.{rules}
use Rattle.answer.specs.Written.{Written, written_then}
use Rattle.leb128.specs.Number.{short_signed}
use Rattle.wrap.specs.Wrap.{wrapped}
use Rattle.apa1_table.specs.Table.{row, identifier, entry_bytes, head_of}
use Rattle.apa1_table.specs.Table.Laws.{entry_bytes_law, entry_most, head_bytes, head_most}

-- a signed number as the code passes it on: by its bits
abbrev Bits : ℤ → ℤ
Bits z = to_z w64 (of_z w64 z)

-- ---- a record
module _ (o b : ℕ) (a c : ℤ) {x y : ℤ} (e : x ≡ wrapped 64 (pos o -ℤ pos b)) (f : y ≡ wrapped 64 (Bits a -ℤ Bits c)) (i : Bits x ≡ x) (j : Bits y ≡ y) (k : Bits a ≡ a) (l : Bits c ≡ c) where
  pub entry_is : short_signed (Bits x) ++ short_signed (Bits y) ≡ entry_bytes (row b c) (row o a)
  entry_is = ap₂ (λ (p q : ℤ). short_signed p ++ short_signed q) (i ∙ e) (j ∙ f ∙ ap₂ (λ (p q : ℤ). wrapped 64 (p -ℤ q)) k l) ∙ sym (entry_bytes_law (row b c) (row o a))

  entry_long : length (short_signed (Bits x)) + length (short_signed (Bits y)) ≡ length (entry_bytes (row b c) (row o a))
  entry_long = sym (length-append (short_signed (Bits x)) (short_signed (Bits y))) ∙ ap length entry_is

  module _ {v w : ℕ} (m : v ≡ length (short_signed (Bits x))) (n : w ≡ length (short_signed (Bits y))) where
    pub len_is : v + w ≡ length (entry_bytes (row b c) (row o a))
    len_is = ap₂ ◌+◌ m n ∙ entry_long

    pub len_fits : Fits w64 (v + w)
    len_fits = record { fits = omega (arith, len_is, entry_most (row b c) (row o a)) }

  module _ (table : List ℕ) (at : ℕ) (room : at + length (entry_bytes (row b c) (row o a)) ≤ length table) where
    pub first_room : at + length (short_signed (Bits x)) ≤ length table
    first_room = omega (arith, entry_long)

    module _ {mid : List ℕ} {next : ℕ} (g : Written table mid at next (short_signed (Bits x))) where
      pub second_room : length mid ≡ length table → next + length (short_signed (Bits y)) ≤ length mid
      second_room h = omega (arith, entry_long, g.place)

      pub entry_written : {new : List ℕ} {past : ℕ} → Written mid new next past (short_signed (Bits y)) → Written table new at past (entry_bytes (row b c) (row o a))
      entry_written h = rw (← entry_is) (written_then g h)

pub ruleset lengths = (len_is, len_fits, rules)

pub ruleset puttings = (first_room, second_room, entry_written, rules)

-- ---- the head
module _ (n : ℕ) (few : n < 2 ^ 63) where
  head_is : identifier ++ short_signed (to_z w64 n) ≡ head_of n
  head_is = ap (λ (z : ℤ). identifier ++ short_signed z) (to_z_pos w64 few) ∙ sym (head_bytes n)

  head_long : 4 + length (short_signed (to_z w64 n)) ≡ length (head_of n)
  head_long = sym (length-append identifier (short_signed (to_z w64 n))) ∙ ap length head_is

  module _ {w : ℕ} (e : w ≡ length (short_signed (to_z w64 n))) where
    pub head_len : 4 + w ≡ length (head_of n)
    head_len = ap (λ (m : ℕ). 4 + m) e ∙ head_long

    pub head_fits : Fits w64 (4 + w)
    head_fits = record { fits = omega (arith, head_len, head_most n few) }

  module _ (table : List ℕ) (room : 0 + length (head_of n) ≤ length table) where
    pub name_room : 4 ≤ length table
    name_room = omega (arith, head_long)

    module _ {mid : List ℕ} {at : ℕ} (g : Written table mid 0 at identifier) where
      pub count_room : length mid ≡ length table → at + length (short_signed (to_z w64 n)) ≤ length mid
      count_room h = omega (arith, head_long, g.place)

      pub head_written : {new : List ℕ} {past : ℕ} → Written mid new at past (short_signed (to_z w64 n)) → Written table new 0 past (head_of n)
      head_written h = rw (← head_is) (written_then g h)

pub ruleset headings = (head_len, head_fits, name_room, count_room, head_written, rules)
