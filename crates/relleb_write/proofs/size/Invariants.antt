use Rattle.relleb_write.proofs.PassNeeds.{Sizing}
use Rattle.relleb_write.proofs.size.Given as goal

abbrev pub invariant-loop-i : goal.invariant-loop-i
invariant-loop-i l =
    Sizing l.width l.offsets l.types l.symbols l.addends l.total l.before.offset l.before.kind l.before.addend l.i
