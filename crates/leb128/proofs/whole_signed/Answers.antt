use mathlib.Core.Path.{ap, ◌∙◌}
use Prim.Native.Nat.{◌≤◌}
use native.Mathlib.Omega.{arith}
use lib.IntN.{pos, negsuc}
use lib.Pow.{pow_mono}
use mir.Syntax.{w64}
use mir.Facts.{to_z-of_z}
use Rattle.leb128.proofs.Reading.{signed_pos, signed_neg}
use Rattle.leb128.proofs.whole_signed.Goals as goal

pub positive-requires : goal.positive-requires
positive-requires c =
    let h = c.in_ok-v.ensures in
    let l : c.args.bits ≤ 63 = omega arith in
    omega (arith, h, pow_mono l)

pub negative-requires : goal.negative-requires
negative-requires c =
    let h = c.in_ok-w.ensures in
    let l : c.args.bits ≤ 63 = omega arith in
    omega (arith, h, pow_mono l)

pub returns-then-d-lt64 : goal.returns-then-d-lt64
returns-then-d-lt64 c =
    let h = c.in_ok-v.ensures in
    rw (signed_pos c.args.low c.args.k c.args.d c.requires.0.low_lt (omega arith), to_z-of_z {w = w64} (record { sfits = c.positive.type_inv }))
    (c.positive.ensures ∙ ap pos h.0, h.1)

pub returns-in_err-v : goal.returns-in_err-v
returns-in_err-v c =
    let h = c.in_err-v.ensures in
    rw (c.from_residual.ensures, signed_pos c.args.low c.args.k c.args.d c.requires.0.low_lt (omega arith)) h

pub returns : goal.returns
returns c =
    let h = c.in_ok-w.ensures in
    let e = c.complement.ensures in
    rw (signed_neg c.args.low c.args.k c.args.d c.requires.0.low_lt (omega arith) c.requires.0.digit, to_z-of_z {w = w64} (record { sfits = c.negative.type_inv }), ← e)
    (c.negative.ensures ∙ ap negsuc h.0, h.1)

pub returns-in_err-w : goal.returns-in_err-w
returns-in_err-w c =
    let h = c.in_err-w.ensures in
    let e = c.complement.ensures in
    rw (c.from_residual-in_err-w.ensures, signed_neg c.args.low c.args.k c.args.d c.requires.0.low_lt (omega arith) c.requires.0.digit, ← e) h
