use Rattle.relr_apply.proofs.PassNeeds.{Patching}
use Rattle.relr_apply.proofs.patch_marks.Given as goal

abbrev pub invariant-loop-bits : goal.invariant-loop-bits
invariant-loop-bits l = Patching l.k l.initial.image l.base l.first l.set l.image l.bits

abbrev pub decreases-loop-bits : goal.decreases-loop-bits
decreases-loop-bits l = l.bits
