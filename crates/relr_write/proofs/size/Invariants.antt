use Rattle.std.proofs.Common.{◌+◌, ◌-◌, ◌*◌, ◌≤◌, length}
use Rattle.relr_write.proofs.PassNeeds.{Sizing}
use Rattle.relr_write.proofs.size.Given as goal

abbrev pub invariant-loop-i : goal.invariant-loop-i
invariant-loop-i l = Sizing l.k l.offsets l.i l.least l.place l.bits l.words × (l.i ≤ length l.offsets)

abbrev pub decreases-loop-i : goal.decreases-loop-i
decreases-loop-i l = 2 * (l.n - l.i) + l.bits
