use Rattle.apr1_write.proofs.PassNeeds.{Putting}
use lib.ListN.{length}
use Prim.Native.Nat.{◌-◌}
use Rattle.apr1_write.proofs.put_pairs.Given as goal

abbrev pub invariant-loop-j : goal.invariant-loop-j
invariant-loop-j l = Putting l.offsets l.initial.table l.table l.first l.j l.x l.at

abbrev pub decreases-loop-j : goal.decreases-loop-j
decreases-loop-j l = length l.offsets - l.j
