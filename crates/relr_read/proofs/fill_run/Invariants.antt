use Rattle.relr_read.proofs.PassNeeds.{Running}
use Rattle.relr_read.proofs.fill_run.Given as goal

abbrev pub invariant-loop-location : goal.invariant-loop-location
invariant-loop-location l = Running l.k l.anchor l.location-items l.x l.location-index
