use Prim.Native.Nat.{◌-◌}
use Rattle.apa1_read.proofs.PassNeeds.{Walking}
use Rattle.apa1_read.proofs.walk.Given as goal

abbrev pub invariant-loop : goal.invariant-loop
invariant-loop l = Walking l.strict l.s l.count l.first (l.count - l.counter) l.at
