use Prim.Native.Nat.{◌-◌}
use lib.ListN.{length}
use Rattle.relr_walk.specs.Inner.{Scanned}
use Rattle.relr_walk.proofs.PassNeeds.{Walking}
use Rattle.relr_walk.proofs.scan.Given as goal

abbrev pub invariant-loop-bits : goal.invariant-loop-bits
invariant-loop-bits l = Walking l.k l.s l.low l.high l.at l.count l.first l.anchor l.set l.next l.bits

abbrev pub decreases-loop-bits : goal.decreases-loop-bits
decreases-loop-bits l = l.bits

abbrev pub invariant-walk : goal.invariant-walk
invariant-walk l = Scanned l.k l.s l.low l.high l.at l.place l.count l.first

abbrev pub decreases-walk : goal.decreases-walk
decreases-walk l = length l.s - l.at
