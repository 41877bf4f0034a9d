use Rattle.std.proofs.Common.{◌-◌}
use Rattle.relr_apply.proofs.StripNeeds.{Along}
use Rattle.relr_apply.proofs.add_strip.Given as goal

abbrev pub invariant-loop-j : goal.invariant-loop-j
invariant-loop-j l = Along l.k l.initial.image l.base l.x l.bits l.bytes l.image l.j

abbrev pub decreases-loop-j : goal.decreases-loop-j
decreases-loop-j l = l.bytes - l.j
