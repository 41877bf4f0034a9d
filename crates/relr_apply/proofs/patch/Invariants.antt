use Rattle.std.proofs.Common.{◌-◌, length}
use Rattle.relr_apply.proofs.PassNeeds.{Working}
use Rattle.relr_apply.proofs.patch.Given as goal

abbrev pub invariant-loop-at : goal.invariant-loop-at
invariant-loop-at l = Working l.k l.s l.initial.image l.base l.start l.at l.behind l.image

abbrev pub decreases-loop-at : goal.decreases-loop-at
decreases-loop-at l = length l.s - l.at
