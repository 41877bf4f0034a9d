use mathlib.Core.Bool.{false}
use Rattle.apr1_read.proofs.PassNeeds.{Storing}
use Rattle.apr1_read.proofs.store_pairs.Given as goal

abbrev pub invariant-loop-stored : goal.invariant-loop-stored
invariant-loop-stored l =
    Storing false l.s l.fn.head.pairs l.fn.head.offset l.fn.head.start l.initial.column l.column l._stored l.from l.x l.i
