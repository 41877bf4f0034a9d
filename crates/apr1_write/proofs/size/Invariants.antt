use Rattle.apr1_write.proofs.PassNeeds.{Sizing}
use lib.ListN.{length}
use Prim.Native.Nat.{◌-◌}
use Rattle.apr1_write.proofs.size.Given as goal

abbrev pub invariant-loop-i : goal.invariant-loop-i
invariant-loop-i l = Sizing l.offsets l.a l.i l.x l.pairs l.bytes

abbrev pub decreases-loop-i : goal.decreases-loop-i
decreases-loop-i l = length l.offsets - l.i
