use lib.ListN.{length}
use Rattle.apa1_write.proofs.PassNeeds.{Filling}
use Rattle.apa1_write.proofs.put_all.Given as goal

abbrev pub invariant-loop-offset : goal.invariant-loop-offset
invariant-loop-offset l = Filling l.offsets l.addends l.initial.table l.table l.first l.at l.last.offset l.last.addend (length l.yielded)
