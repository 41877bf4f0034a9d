use mathlib.Core.Path.{refl}
use native.Mathlib.Omega.{arith}
use Rattle.leb128.proofs.Signs.{size_pos, sub_neg, size_neg}
use Rattle.leb128.proofs.magnitude.Goals as goal

pub overflow_sub-result : goal.overflow_sub-result
overflow_sub-result c = rw (sub_neg _ c.ranges.x c.if-x-lt0.true) (record { sfits = c.ranges.x.sfits })

pub overflow_cast-result : goal.overflow_cast-result
overflow_cast-result c = rw (size_neg _ c.ranges.x c.if-x-lt0.true) (tt, omega (arith, c.ranges.x.sfits))

pub returns-then-x-lt0 : goal.returns-then-x-lt0
returns-then-x-lt0 c = rw (size_neg _ c.ranges.x c.if-x-lt0.true) (refl, c.ranges.x.sfits)

pub overflow_cast-result-2 : goal.overflow_cast-result-2
overflow_cast-result-2 c = rw (size_pos _ c.ranges.x c.if-x-lt0.false) (tt, omega (arith, c.ranges.x.sfits))

pub returns : goal.returns
returns c = rw (size_pos _ c.ranges.x c.if-x-lt0.false) (refl, c.ranges.x.sfits)
