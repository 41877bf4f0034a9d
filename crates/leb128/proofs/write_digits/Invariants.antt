use mathlib.Core.Path.{◌≡◌}
use Prim.Native.Nat.{◌+◌}
use lib.ListN.{length}
use lib.Seq.{sets}
use Rattle.leb128.specs.Number.{short}
use Rattle.leb128.proofs.write_digits.Given as goal

abbrev pub invariant-loop-m : goal.invariant-loop-m
invariant-loop-m l =
    (sets l.out l.i (short l.limit l.neg l.m) ≡ sets l.initial.out l.at (short l.limit l.neg l.x))
    × (l.i + length (short l.limit l.neg l.m) ≡ l.at + length (short l.limit l.neg l.x))
    × (length l.out ≡ length l.initial.out)

abbrev pub decreases-loop-m : goal.decreases-loop-m
decreases-loop-m l = l.m
