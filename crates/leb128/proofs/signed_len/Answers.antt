use lib.Signed.{mag}
use mir.Syntax.{w64}
use mir.Facts.{to_z-of_z}
use mathlib.Core.Path.{ap, sym, ◌∙◌}
use mathlib.Core.Bool.{false}
use Prim.Native.Nat.{ℕ, ◌*◌}
use lib.ListN.{length}
use lib.Dec.{lit<}
use Rattle.leb128.specs.Number.{short}
use Rattle.leb128.proofs.Writing.{short_length}
use Rattle.leb128.proofs.Length.{length_double}
use Rattle.leb128.proofs.signed_len.Goals as goal

pub returns : goal.returns
returns c =
    c.count_digits.ensures
    ∙ ap (λ (n : ℕ). length (short 128 false (2 * n))) (c.magnitude.ensures.0 ∙ ap mag (to_z-of_z {w = w64} c.ranges.x))
    ∙ length_double _
    ∙ sym (short_length 64 (lit< tt) _ _)
