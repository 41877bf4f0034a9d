use lib.ListN.{length}
use Rattle.apa1_write.proofs.PassNeeds.{Sizing}
use Rattle.apa1_write.proofs.size.Given as goal

abbrev pub invariant-loop-offset : goal.invariant-loop-offset
invariant-loop-offset l = Sizing l.offsets l.addends l.total l.last.offset l.last.addend (length l.yielded)
