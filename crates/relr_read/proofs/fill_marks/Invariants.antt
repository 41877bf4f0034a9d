use Rattle.relr_read.proofs.PassNeeds.{Filling}
use Rattle.relr_read.proofs.fill_marks.Given as goal

abbrev pub invariant-loop-bits : goal.invariant-loop-bits
invariant-loop-bits l = Filling l.k l.initial.column l.at l.anchor l.set l.column l.bits l.i

abbrev pub decreases-loop-bits : goal.decreases-loop-bits
decreases-loop-bits l = l.bits
