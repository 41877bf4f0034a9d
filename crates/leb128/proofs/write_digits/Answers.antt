use mathlib.Core.Path.{refl, ◌∙◌}
use native.Mathlib.Omega.{arith}
use lib.ListN.{length-set}
use Rattle.leb128.proofs.Writing.{short_some, sets_more, length_more, sets_end, length_end}
use Rattle.leb128.proofs.write_digits.Goals as goal

pub loop-m-init : goal.loop-m-init
loop-m-init c = (refl, refl, refl)

pub bounds-out-i : goal.bounds-out-i
bounds-out-i c =
    let b = c.before in
    omega (arith, short_some b.args.limit b.requires.low b.args.neg c.loop-m.m)

pub loop-m-preserved : goal.loop-m-preserved
loop-m-preserved c =
    let b = c.before in
    let l = c.loop-m in
    let h = c.loop-m-test.true in (
      sets_more b.args.limit b.requires.low b.args.neg l.out l.i l.m c.turned.result h c.turned.ensures.0 ∙ l.invariant.0,
      omega (arith, length_more b.args.limit b.requires.low b.args.neg l.out l.i l.m 0 h),
      simp length-set l.invariant.2,
    )

pub bounds-out-i-2 : goal.bounds-out-i-2
bounds-out-i-2 c =
    let b = c.before in
    omega (arith, short_some b.args.limit b.requires.low b.args.neg c.loop-m.m)

pub returns : goal.returns
returns c =
    let b = c.before in
    let l = c.loop-m in
    let h = c.loop-m-test.false in
    record {
      list = sets_end b.args.limit b.requires.low b.args.neg l.out l.i l.m c.turned-2.result h c.turned-2.ensures.0 ∙ l.invariant.0;
      place = omega (arith, length_end b.args.limit b.requires.low b.args.neg l.out l.i l.m 0 h);
    }
