use Rattle.std.proofs.Common.{refl}
use Rattle.relr_apply.proofs.PassNeeds.{workings, working_one, working_more, working_end}
use Rattle.relr_apply.proofs.patch.Goals as goal

pub loop-at-init : goal.loop-at-init
loop-at-init c = search workings

pub overflow_sub-behind : goal.overflow_sub-behind
overflow_sub-behind c = search workings

pub add_at-requires : goal.add_at-requires
add_at-requires c = search workings

pub loop-at-preserved-then-x-eq0 : goal.loop-at-preserved-then-x-eq0
loop-at-preserved-then-x-eq0 c =
    working_one c.requires c.loop-at.invariant c.loop-at-test.true c.load-x.ensures.0 c.if-x-eq0.true c.bytes-c.ensures c.add_at.ensures

pub patch_bitmap-requires : goal.patch_bitmap-requires
patch_bitmap-requires c = search workings

pub loop-at-preserved : goal.loop-at-preserved
loop-at-preserved c =
    working_more c.requires c.loop-at.invariant c.loop-at-test.true c.load-x.ensures.0 c.load-x.ensures.1 c.if-x-eq0.false c.bytes-c.ensures
    refl c.stride-stride.ensures refl c.patch_bitmap.ensures

pub returns : goal.returns
returns c = working_end c.requires c.loop-at.invariant c.loop-at-test.false
