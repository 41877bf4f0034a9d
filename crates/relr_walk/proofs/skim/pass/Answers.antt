use Rattle.relr_walk.proofs.SkimNeeds.{skims, one_sum, one_on, many_sum, many_on}
use Rattle.relr_walk.proofs.skim.pass.Goals as goal

pub load-requires : goal.load-requires
load-requires c = search skims

pub overflow_add-count : goal.overflow_add-count
overflow_add-count c = one_sum c.requires c.loop-at.invariant c.loop-at-test.true c.load.ensures.0 c.top-top.ensures c.fence-clear.ensures c.step_near-stepped.ensures c.in-Some-One.is (rw c.in-Some-One.is at c.in-Some-One.field-0-is)

pub loop-at-preserved-in-Some-One : goal.loop-at-preserved-in-Some-One
loop-at-preserved-in-Some-One c = one_on c.requires c.loop-at.invariant c.loop-at-test.true c.load.ensures.0 c.top-top.ensures c.fence-clear.ensures c.step_near-stepped.ensures c.in-Some-One.is (rw c.in-Some-One.is at c.in-Some-One.field-0-is) c.bytes-c.ensures

pub overflow_add-count-in-Some-Many : goal.overflow_add-count-in-Some-Many
overflow_add-count-in-Some-Many c = many_sum c.requires c.loop-at.invariant c.loop-at-test.true c.load.ensures.0 c.top-top.ensures c.fence-clear.ensures c.step_near-stepped.ensures c.in-Some-Many.is (rw c.in-Some-Many.is at c.in-Some-Many.field-0-is)

pub loop-at-preserved : goal.loop-at-preserved
loop-at-preserved c = many_on c.requires c.loop-at.invariant c.loop-at-test.true c.load.ensures.0 c.top-top.ensures c.fence-clear.ensures c.step_near-stepped.ensures c.in-Some-Many.is (rw c.in-Some-Many.is at c.in-Some-Many.field-0-is) c.bytes-c.ensures
