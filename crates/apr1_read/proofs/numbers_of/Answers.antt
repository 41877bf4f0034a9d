use Rattle.apr1_read.proofs.EntryNeeds.{numbers_bad, numbers_bad_2}
use Rattle.apr1_read.proofs.numbers_of.Goals as goal

pub returns-in_err-pairs : goal.returns-in_err-pairs
returns-in_err-pairs c = numbers_bad _ _ _ c.from_residual.ensures.1 c.in_err-pairs.ensures

pub returns-in_err-offset : goal.returns-in_err-offset
returns-in_err-offset c = numbers_bad_2 _ _ _ c.in_ok-pairs.ensures c.from_residual-in_err-offset.ensures.1 c.in_err-offset.ensures
