use Rattle.std.proofs.Common.{◌-◌}
use Rattle.relr_apply.proofs.StripNeeds.{Rolling}
use Rattle.relr_apply.proofs.patch_window.Given as goal

abbrev pub invariant-loop-j : goal.invariant-loop-j
invariant-loop-j l = Rolling l.k l.initial.image l.base l.first l.set l.window l.image l.bits l.x l.j

abbrev pub decreases-loop-j : goal.decreases-loop-j
decreases-loop-j l = l.window - l.j
