use Prim.Native.Nat.{◌-◌}
use mathlib.Core.Bool.{false}
use Rattle.apa1_read.proofs.PassNeeds.{Storing}
use Rattle.apa1_read.proofs.store.Given as goal

abbrev pub invariant-loop-i : goal.invariant-loop-i
invariant-loop-i l =
    Storing false l.s l.count l.first l.initial.offsets l.initial.addends l.offsets l.addends (l.count - l.i) l.last.past l.last.offset l.last.addend l.i
