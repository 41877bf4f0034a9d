-- A reader and a writer above `leb128`, by its laws alone: nothing of its definitions is unfolded here.
-- Assumes nothing.
use Prim.Native.Nat.{ℕ, ◌+◌, ◌≤◌}
use mathlib.Core.Path.{◌≡◌, sym, ◌∙◌}
use mathlib.Core.Bool.{false}
use mathlib.Core.List.{List, ◌++◌}
use native.Mathlib.Omega.{arith}
use lib.IntN.{ℤ}
use lib.ListN.{length, length-append}
use mir.Syntax.{w32, w64}
use mir.Val.{Fits, to_z, of_z}
use borrow.Author.Rules.{rules}
use Rattle.answer.specs.Written.{Written, written_then}
use Rattle.leb128.specs.Number.{read_unsigned, short_unsigned, short_signed}
use Rattle.leb128.proofs.Setting.{unsigned_value}
use Rattle.cases.specs.U32.{read_u32}
use Rattle.leb128.specs.Number.{Unsigned, ok_at}

module _ (s : List ℕ) (at : ℕ) {r : Unsigned} (e : r ≡ read_unsigned false 32 s at) where
  pub value_fits : {v next : ℕ} → r ≡ ok_at v next → Fits w32 v
  value_fits f = record { fits = (unsigned_value false 32 s at _ _ (sym e ∙ f)).0 }

  pub value_is : {v next : ℕ} → r ≡ ok_at v next → ok_at v next ≡ read_u32 s at
  value_is f = sym f ∙ e

module _ (out : List ℕ) (at x : ℕ) (y : ℤ) where
  pub room_first : at + length (short_unsigned x ++ short_signed y) ≤ length out → at + length (short_unsigned x) ≤ length out
  room_first h = omega (arith, length-append (short_unsigned x) (short_signed y))

  module _ {mid : List ℕ} {next : ℕ} (w : Written out mid at next (short_unsigned x)) (i : to_z w64 (of_z w64 y) ≡ y) where
    pub room_second : at + length (short_unsigned x ++ short_signed y) ≤ length out → length mid ≡ length out
        → next + length (short_signed (to_z w64 (of_z w64 y))) ≤ length mid
    room_second h k = rw i (omega (arith, length-append (short_unsigned x) (short_signed y), w.place))

    pub both_written : {new : List ℕ} {past : ℕ} → Written mid new next past (short_signed (to_z w64 (of_z w64 y))) → Written out new at past (short_unsigned x ++ short_signed y)
    both_written v = written_then w (rw i at v)

-- room for two numbers behind a byte
pub room_both : {a b : ℕ} (x : ℕ) (y : ℤ) (out : List ℕ) → a ≡ length (short_unsigned x) → b ≡ length (short_signed y) → a ≤ 10 → b ≤ 10 → length out ≡ 24
    → 1 + length (short_unsigned x ++ short_signed y) ≤ length out
room_both x y out e f h k l = omega (arith, length-append (short_unsigned x) (short_signed y))

pub ruleset pairs = (value_fits, value_is, room_first, room_second, both_written, room_both, rules)
