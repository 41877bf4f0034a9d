use Rattle.relr_read.proofs.PassNeeds.{Spreading}
use Rattle.relr_read.proofs.fill_window.Given as goal

abbrev pub invariant-loop-j : goal.invariant-loop-j
invariant-loop-j l = Spreading l.k l.count l.initial.column l.at l.anchor l.set l.column l.i l.j
