-- Fields, lines and lists of lines on a page, as the code asks it.
-- Assumes nothing.
use Prim.Native.Nat.{ℕ, ◌+◌, ◌*◌, ◌^◌, ◌<◌}
use mathlib.Core.Path.{◌≡◌, ap, sym}
use mathlib.Core.Bool.{Bool, true}
use mathlib.Core.List.{List, [], ◌∷◌, ◌++◌, append-nil}
use native.Mathlib.Numerals.{add-one}
use native.Mathlib.Omega.{arith}
use lib.IntN.{ℤ}
use mir.Syntax.{w64}
use mir.Val.{SFits, to_z, of_z}
use mir.Facts.{to_z-of_z}
use borrow.Author.Rules.{rules}
use Rattle.std.specs.Fmt as fmt
use Rattle.relleb_table.specs.Table.{Row, row}
use Rattle.listing.specs.declared.kind.Kind.{Kind}
use Rattle.listing.specs.declared.columns.Columns.{Columns}
use Rattle.listing.specs.Text.{has_type, has_addend, field, row_text, rows_to}
use Rattle.listing.specs.Inner.{Prints, row_in, lines_to}
use Rattle.listing.proofs.PutNeeds.{put_put, decimal_same, signed_same}

-- ---- a line; an addend is handed to a callee by its bits
pub row_put : (k : Kind) (i o t y : ℕ) (a : ℤ) {p0 p1 p2 p3 p4 p5 p6 : List ℕ} {typed signed : Bool}
    → i < 2 ^ 64 → o < 2 ^ 64 → t < 2 ^ 32 → y < 2 ^ 32 → SFits w64 a → typed ≡ has_type k → signed ≡ has_addend k
    → Prints p0 p1 (fmt.decimal i) 20 → Prints p1 p2 (field true (fmt.decimal o)) 22
    → Prints p2 p3 (field typed (fmt.decimal t)) 12 → Prints p3 p4 (field typed (fmt.decimal y)) 12
    → Prints p4 p5 (field signed (fmt.signed_decimal (to_z w64 (of_z w64 a)))) 22 → Prints p5 p6 (10 ∷ []) 1
    → Prints p0 p6 (row_text k i (row o t y a)) 109
unfolding row_text
row_put k i o t y a hi ho ht hy ha e f a1 a2 a3 a4 a5 a6 =
    rw (← decimal_same i hi, ← decimal_same o ho, ← decimal_same t (omega arith), ← decimal_same y (omega arith), ← signed_same a ha.sfits, ← to_z-of_z {w = w64} ha, ← e, ← f)
    (put_put {m = 88} (put_put {m = 66} (put_put {m = 54} (put_put {m = 42} (put_put a1 a2 (omega arith)) a3 (omega arith)) a4 (omega arith)) a5 (omega arith)) a6 (omega arith))

-- ---- the lines of the first records of the columns
module _ (k : Kind) (c : Columns) where
  pub lines_none : (page : List ℕ) → Prints page page (lines_to k c 0) 0
  unfolding rows_to
  lines_none page = record { is = sym (append-nil page); few = omega arith }

  lines_next : (i : ℕ) → lines_to k c (i + 1) ≡ lines_to k c i ++ row_text k i (row_in c i)
  unfolding rows_to
  lines_next i = ap (rows_to k c.offsets c.types c.symbols c.addends) (add-one i)

  pub lines_more : (i : ℕ) {old now new : List ℕ} {x : Row} → Prints old now (lines_to k c i) (109 * i) → x ≡ row_in c i → Prints now new (row_text k i x) 109
      → Prints old new (lines_to k c (i + 1)) (109 * (i + 1))
  lines_more i p e q = rw (lines_next i, ← e) (put_put p q (omega arith))

pub ruleset lines = (lines_none, lines_more, rules)
