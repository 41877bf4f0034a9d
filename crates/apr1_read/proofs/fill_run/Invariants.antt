use Rattle.apr1_read.proofs.PassNeeds.{Filling}
use Rattle.apr1_read.proofs.fill_run.Given as goal

abbrev pub invariant-loop-z : goal.invariant-loop-z
invariant-loop-z l = Filling l.initial.z-items l.x l.d l.z-items l.z-index l.y
