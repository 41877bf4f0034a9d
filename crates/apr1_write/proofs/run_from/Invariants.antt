use Rattle.apr1_write.proofs.EntryNeeds.{Counting}
use Rattle.apr1_write.proofs.run_from.Given as goal

abbrev pub invariant-loop-i : goal.invariant-loop-i
invariant-loop-i l = Counting l.offsets l.from l.y l.d l.i l.x
