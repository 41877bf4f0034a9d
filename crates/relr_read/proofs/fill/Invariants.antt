use Rattle.std.proofs.Common.{◌-◌, length}
use Rattle.relr_read.proofs.PassNeeds.{Reading}
use Rattle.relr_read.proofs.fill.Given as goal

abbrev pub invariant-loop-at : goal.invariant-loop-at
invariant-loop-at l = Reading l.k l.s l.count l.initial.column l.at l.behind l.column l.i

abbrev pub decreases-loop-at : goal.decreases-loop-at
decreases-loop-at l = length l.s - l.at
