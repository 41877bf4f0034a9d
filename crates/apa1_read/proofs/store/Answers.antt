use native.Mathlib.Omega.{arith}
use mir.Syntax.{w64}
use mir.Facts.{to_z-of_z}
use borrow.Author.Rules.{rules}
use Rattle.apa1_read.proofs.PassNeeds.{store_begin, store_bad, store_in, store_in_2, store_more, store_end}
use Rattle.apa1_read.proofs.store.Goals as goal

pub loop-i-init : goal.loop-i-init
loop-i-init c = store_begin _ _ _ _ _ _

pub returns-in_default : goal.returns-in_default
returns-in_default c = store_bad c.requires c.loop-i.invariant (omega arith) c.in_default.ensures

pub bounds-offsets-i : goal.bounds-offsets-i
bounds-offsets-i c = store_in c.requires c.loop-i.invariant (omega arith) c.in-Ok.ensures

pub bounds-addends-i : goal.bounds-addends-i
bounds-addends-i c = store_in_2 c.requires c.loop-i.invariant (omega arith) c.in-Ok.ensures

pub loop-i-preserved : goal.loop-i-preserved
loop-i-preserved c =
    rw (to_z-of_z {w = w64} {z = c.in-Ok.entry.addend} (search rules)) (store_more c.requires c.loop-i.invariant (omega arith) c.in-Ok.ensures)

pub returns : goal.returns
returns c = store_end c.requires c.loop-i.invariant c.loop-i-test.false
