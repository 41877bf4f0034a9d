use Rattle.records.proofs.Identifier.{Copied}
use Rattle.records.proofs.put_identifier.Given as goal

abbrev pub invariant-loop-i : goal.invariant-loop-i
invariant-loop-i l = Copied l.identifier l.initial.table l.table l.i
