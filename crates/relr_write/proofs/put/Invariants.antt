use Rattle.std.proofs.Common.{◌+◌, ◌-◌, ◌*◌, length}
use Rattle.relr_write.specs.Inner.{end_of}
use Rattle.relr_write.proofs.PassNeeds.{Putting}
use Rattle.relr_write.proofs.put.Given as goal

abbrev pub invariant-loop-i : goal.invariant-loop-i
invariant-loop-i l = Putting l.k l.offsets l.initial.table l.i l.pending l.at l.table

abbrev pub decreases-loop-i : goal.decreases-loop-i
decreases-loop-i l = 2 * (l.n - l.i) + length (end_of l.pending.bits)
