use Rattle.relr_walk.proofs.PassNeeds.{scans, scan_fetch, scan_count, scan_one, scan_reach, scan_refused, walk_begin, walk_count, walk_set, walk_far, walk_done}
use Rattle.relr_walk.proofs.scan.Goals as goal

pub walk-init : goal.walk-init
walk-init c = search scans

pub load-requires : goal.load-requires
load-requires c = scan_fetch c.walk.invariant c.pass-passed.ensures c.if-s-at.false

pub overflow_add-count : goal.overflow_add-count
overflow_add-count c = scan_count c.walk.invariant c.pass-passed.ensures c.if-s-at.false c.load.ensures.0 c.open-opened.ensures c.in-Ok-Address.is (rw c.in-Ok-Address.is at c.in-Ok-Address.field-0-is) c.requires.whole

pub walk-preserved-in-Ok-Address : goal.walk-preserved-in-Ok-Address
walk-preserved-in-Ok-Address c = scan_one c.walk.invariant c.pass-passed.ensures c.if-s-at.false c.load.ensures.0 c.open-opened.ensures c.in-Ok-Address.is (rw c.in-Ok-Address.is at c.in-Ok-Address.field-0-is) c.requires.whole c.bytes-c.ensures c.within.ensures c.grown-first.ensures

pub overflow_sub-reach : goal.overflow_sub-reach
overflow_sub-reach c = scan_reach c.walk.invariant c.pass-passed.ensures c.if-s-at.false c.load.ensures.0 c.open-opened.ensures c.in-Ok-Marks.is (rw c.in-Ok-Marks.is at c.in-Ok-Marks.field-0-is) c.last.result c.last.ensures

pub loop-bits-init : goal.loop-bits-init
loop-bits-init c = walk_begin (c.pass-passed.ensures.on _ c.walk.invariant) c.if-s-at.false c.load.ensures.0 c.open-opened.ensures c.in-Ok-Marks.is (rw c.in-Ok-Marks.is at c.in-Ok-Marks.field-0-is)

pub overflow_add-count-in-loop-bits : goal.overflow_add-count-in-loop-bits
overflow_add-count-in-loop-bits c = walk_count c.loop-bits.invariant c.loop-bits-test.true c.requires.whole c.if-s-at.false

pub loop-bits-preserved : goal.loop-bits-preserved
loop-bits-preserved c = walk_set c.loop-bits.invariant c.loop-bits-test.true _ c.last.ensures c.bytes-c.ensures c.requires.whole c.if-s-at.false c.if-reach-d.false c.within-in-loop-bits.ensures c.grown-first-in-loop-bits.ensures
    (scan_reach c.walk.invariant c.pass-passed.ensures c.if-s-at.false c.load.ensures.0 c.open-opened.ensures c.in-Ok-Marks.is (rw c.in-Ok-Marks.is at c.in-Ok-Marks.field-0-is) c.last.result c.last.ensures)

pub walk-preserved : goal.walk-preserved
walk-preserved c = walk_done c.loop-bits.invariant c.bytes-c.ensures c.loop-bits-test.false

pub returns-then-s-at : goal.returns-then-s-at
returns-then-s-at c = search scans

pub returns-in-Err : goal.returns-in-Err
returns-in-Err c = scan_refused c.walk.invariant c.pass-passed.ensures c.if-s-at.false c.load.ensures.0 c.open-opened.ensures c.in-Err.is

pub returns-then-reach-d : goal.returns-then-reach-d
returns-then-reach-d c = walk_far c.loop-bits.invariant c.loop-bits-test.true _ c.last.ensures c.bytes-c.ensures c.if-reach-d.true
