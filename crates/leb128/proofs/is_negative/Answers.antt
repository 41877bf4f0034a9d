use mathlib.Core.Path.{ap, ◌∙◌}
use lib.IntN.{ℤ, pos}
use lib.Signed.{lt_z}
use mir.Syntax.{w64}
use mir.Facts.{to_z-of_z}
use Rattle.leb128.proofs.Signs.{is_neg_is}
use Rattle.leb128.proofs.is_negative.Goals as goal

pub returns : goal.returns
returns c = ap (λ (z : ℤ). lt_z z (pos 0)) (to_z-of_z {w = w64} c.ranges.x) ∙ is_neg_is c.args.x
