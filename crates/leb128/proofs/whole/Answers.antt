use mathlib.Core.Path.{sym, ◌∙◌}
use Prim.Native.Nat.{◌-◌, ◌*◌, ◌^◌, ◌<◌}
use native.Mathlib.Nat.{lt_of_lt_of_le}
use borrow.Author.Rules.{rules}
use borrow.Author.Tests.{ltb-true, ltb-false}
use lib.Pow.{pow_mono}
use Rattle.leb128.proofs.Reading.{shl_is, under, over}
use Rattle.leb128.proofs.whole.Goals as goal

pub overflow_add-result : goal.overflow_add-result
overflow_add-result c =
    let is_below : c.args.d < 2 ^ (c.args.bits - 7 * c.args.k) = ltb-true _ _ (sym c.below.ensures ∙ c.if-below.true) in
    let a = c.args in
    let p = c.requires in
    let h = is_below in
    rw (shl_is (a.bits - 7 * a.k) (7 * a.k) h (search rules))
    (record { fits = lt_of_lt_of_le (under a.low a.d (7 * a.k) a.bits p.low_lt p.room h) (pow_mono p.word) })

pub returns-then-below : goal.returns-then-below
returns-then-below c =
    let is_below : c.args.d < 2 ^ (c.args.bits - 7 * c.args.k) = ltb-true _ _ (sym c.below.ensures ∙ c.if-below.true) in
    let a = c.args in
    let p = c.requires in
    let h = is_below in
    (rw (shl_is (a.bits - 7 * a.k) (7 * a.k) h (search rules)), under a.low a.d (7 * a.k) a.bits p.low_lt p.room h)

pub returns : goal.returns
returns c =
    let a = c.args in
    let p = c.requires in
    over a.low a.d (7 * a.k) a.bits p.low_lt p.room (ltb-false _ _ (sym c.below.ensures ∙ c.if-below.false))
