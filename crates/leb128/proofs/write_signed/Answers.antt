-- an `i64` is handed to a callee by its bits
use mathlib.Core.Path.{◌≡◌, ap, ◌∙◌}
use lib.Signed.{mag}
use mir.Syntax.{w64}
use mir.Facts.{to_z-of_z}
use Rattle.leb128.specs.Number.{is_neg}
use borrow.Author.Rules.{rules}
use Rattle.leb128.proofs.write_signed.Goals as goal

pub write_digits-requires : goal.write_digits-requires
write_digits-requires c =
    let size_is : c.magnitude.result ≡ mag c.args.x = c.magnitude.ensures.0 ∙ ap mag (to_z-of_z {w = w64} c.ranges.x) in
    let neg_is : c.is_negative.result ≡ is_neg c.args.x = c.is_negative.ensures ∙ ap is_neg (to_z-of_z {w = w64} c.ranges.x) in
    rw (neg_is, size_is)
    (record { low = search rules; high = search rules; room = c.requires })

pub returns : goal.returns
returns c =
    let size_is : c.magnitude.result ≡ mag c.args.x = c.magnitude.ensures.0 ∙ ap mag (to_z-of_z {w = w64} c.ranges.x) in
    let neg_is : c.is_negative.result ≡ is_neg c.args.x = c.is_negative.ensures ∙ ap is_neg (to_z-of_z {w = w64} c.ranges.x) in
    rw (← neg_is, ← size_is) c.write_digits.ensures
