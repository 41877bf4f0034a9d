use borrow.Author.Rules.{rules}
use Rattle.apr1_read.proofs.EntryNeeds.{entry_not, entry_not_2, entry_product, entry_sum, entry_far, entry_is}
use Rattle.apr1_read.proofs.entry_at.Goals as goal

pub returns-in_err-count : goal.returns-in_err-count
returns-in_err-count c = entry_not _ _ _ _ _ c.from_residual.ensures.1 c.in_err-count.ensures

pub returns-in_err-gap : goal.returns-in_err-gap
returns-in_err-gap c = entry_not_2 _ _ _ _ c.in_ok-count.ensures _ c.from_residual-in_err-gap.ensures.1 c.in_err-gap.ensures

pub overflow_mul-reach : goal.overflow_mul-reach
overflow_mul-reach c = entry_product _ _ _ c.args.x c.in_ok-count.ensures c.in_ok-gap.ensures

pub overflow_add-reach : goal.overflow_add-reach
overflow_add-reach c = entry_sum _ _ _ _ c.in_ok-count.ensures c.in_ok-gap.ensures (search rules)

pub returns-then-reach-gt-LAST : goal.returns-then-reach-gt-LAST
returns-then-reach-gt-LAST c = entry_far _ _ _ _ c.in_ok-count.ensures c.in_ok-gap.ensures (search rules) (search rules)

pub returns : goal.returns
returns c = entry_is _ _ _ _ c.in_ok-count.ensures c.in_ok-gap.ensures (search rules) (search rules)
