use mathlib.Core.Bool.{false}
use Rattle.relleb_read.proofs.PassNeeds.{Storing}
use Rattle.relleb_read.proofs.store.Given as goal

abbrev pub invariant-loop-i : goal.invariant-loop-i
invariant-loop-i l =
    Storing false l.width l.s l.count l.first l.initial.offsets l.initial.types l.initial.symbols l.initial.addends l.offsets l.types l.symbols l.addends l.from l.state.offset l.state.kind l.state.addend l.i
