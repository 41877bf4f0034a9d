use Rattle.relr_apply.proofs.PassNeeds.{Running}
use Rattle.relr_apply.proofs.patch_run.Given as goal

abbrev pub invariant-loop-j : goal.invariant-loop-j
invariant-loop-j l = Running l.k l.initial.image l.base l.first l.n l.image l.j
