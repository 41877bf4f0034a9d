use Rattle.relleb_write.proofs.PassNeeds.{Filling}
use Rattle.relleb_write.proofs.put_all.Given as goal

abbrev pub invariant-loop-i : goal.invariant-loop-i
invariant-loop-i l =
    Filling l.width l.offsets l.types l.symbols l.addends l.initial.table l.table l.first l.at l.before.offset l.before.kind l.before.addend l.i
