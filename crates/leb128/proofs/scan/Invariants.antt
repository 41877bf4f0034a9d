use mathlib.Core.Path.{◌≡◌}
use Prim.Native.Nat.{suc, ◌+◌, ◌-◌, ◌*◌, ◌^◌, ◌≤◌, ◌<◌}
use lib.ListN.{drop}
use Rattle.leb128.specs.Number.{raw}
use Rattle.leb128.proofs.Reading.{onto}
use Rattle.leb128.proofs.scan.Given as goal

abbrev pub invariant-loop-i : goal.invariant-loop-i
invariant-loop-i l =
    (l.i ≡ l.at + l.j) × (l.j ≤ l.last) × (l.low < 2 ^ (7 * l.j)) × (raw (suc l.last) (drop l.at l.s) ≡ onto l.low l.j (raw (suc (l.last - l.j)) (drop l.i l.s)))

abbrev pub decreases-loop-i : goal.decreases-loop-i
decreases-loop-i l = l.last - l.j
