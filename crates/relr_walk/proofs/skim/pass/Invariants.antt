use lib.ListN.{length}
use Prim.Native.Nat.{◌-◌}
use Rattle.relr_walk.proofs.SkimNeeds.{Skimming}
use Rattle.relr_walk.proofs.skim.pass.Given as goal

abbrev pub invariant-loop-at : goal.invariant-loop-at
invariant-loop-at l = Skimming l.k l.s l.low l.high l.initial.at l.initial.place l.initial.count l.at l.place l.count

abbrev pub decreases-loop-at : goal.decreases-loop-at
decreases-loop-at l = length l.s - l.at
