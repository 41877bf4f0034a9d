use Prim.Native.Nat.{◌*◌}
use Rattle.listing.specs.Inner.{Prints, lines_to}
use Rattle.listing.proofs.rows.put_rows.Given as goal

abbrev pub invariant-loop-i : goal.invariant-loop-i
invariant-loop-i l = Prints l.initial.page l.page (lines_to l.kind l.columns l.i) (109 * l.i)
