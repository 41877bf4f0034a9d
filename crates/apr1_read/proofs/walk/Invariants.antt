use Rattle.apr1_read.proofs.PassNeeds.{Walking}
use Rattle.apr1_read.proofs.walk.Given as goal

abbrev pub invariant-loop-passed : goal.invariant-loop-passed
invariant-loop-passed l = Walking l.strict l.s l.fn.head.pairs l.fn.head.offset l.fn.head.start l._passed l.at l.x l.count
