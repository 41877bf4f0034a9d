use borrow.Author.Rules.{rules}
use Rattle.apr1_read.proofs.PassNeeds.{walks, walk_bad, walk_sum, walk_more}
use Rattle.apr1_read.proofs.walk.Goals as goal

pub loop-passed-init : goal.loop-passed-init
loop-passed-init c = search walks

pub returns-in_err-entry : goal.returns-in_err-entry
returns-in_err-entry c = walk_bad c.loop-passed.invariant (search rules) _ c.from_residual.ensures.1 c.in_err-entry.ensures.0

pub overflow_add-count : goal.overflow_add-count
overflow_add-count c = walk_sum c.loop-passed.invariant (search rules) _ c.in_ok-entry.ensures.0 c.in_ok-entry.ensures.1 c.requires

pub loop-passed-preserved : goal.loop-passed-preserved
loop-passed-preserved c = walk_more c.loop-passed.invariant (search rules) _ c.in_ok-entry.ensures.0 c.in_ok-entry.ensures.1

pub returns-then-at-s : goal.returns-then-at-s
returns-then-at-s c = search walks

pub returns : goal.returns
returns c = search walks
