use Rattle.relleb_read.proofs.PassNeeds.{Walking}
use Rattle.relleb_read.proofs.walk.Given as goal

abbrev pub invariant-loop : goal.invariant-loop
invariant-loop l = Walking l.strict l.width l.s l.count l.first l.counter l.from
