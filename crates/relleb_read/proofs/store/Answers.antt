use borrow.Author.Rules.{rules}
use Rattle.relleb_read.proofs.PassNeeds.{store_begin, store_bad, store_in, store_in_2, store_in_3, store_in_4, store_scaled, store_scaled_2, store_more, store_end}
use Rattle.relleb_read.proofs.store.Goals as goal

pub loop-i-init : goal.loop-i-init
loop-i-init c = store_begin _ _ _ _ _ _ _ _ _

pub returns-in_default : goal.returns-in_default
returns-in_default c = store_bad c.requires.1 c.loop-i.invariant c.loop-i-test.true c.in_default.ensures

pub offset_bounds-offsets-i : goal.offset_bounds-offsets-i
offset_bounds-offsets-i c = store_scaled c.requires.1 c.loop-i.invariant c.loop-i-test.true c.in-Ok.ensures (search rules)

pub bounds-offsets-i : goal.bounds-offsets-i
bounds-offsets-i c = store_in c.requires.1 c.loop-i.invariant c.loop-i-test.true c.in-Ok.ensures c.loop-i.auto.offsets

pub offset_bounds-types-i : goal.offset_bounds-types-i
offset_bounds-types-i c = store_scaled_2 c.requires.1 c.loop-i.invariant c.loop-i-test.true c.in-Ok.ensures (search rules)

pub bounds-types-i : goal.bounds-types-i
bounds-types-i c = store_in_2 c.requires.1 c.loop-i.invariant c.loop-i-test.true c.in-Ok.ensures c.loop-i.auto.types

pub offset_bounds-symbols-i : goal.offset_bounds-symbols-i
offset_bounds-symbols-i c = store_scaled_2 c.requires.1 c.loop-i.invariant c.loop-i-test.true c.in-Ok.ensures (search rules)

pub bounds-symbols-i : goal.bounds-symbols-i
bounds-symbols-i c = store_in_3 c.requires.1 c.loop-i.invariant c.loop-i-test.true c.in-Ok.ensures c.loop-i.auto.symbols

pub offset_bounds-addends-i : goal.offset_bounds-addends-i
offset_bounds-addends-i c = store_scaled c.requires.1 c.loop-i.invariant c.loop-i-test.true c.in-Ok.ensures (search rules)

pub bounds-addends-i : goal.bounds-addends-i
bounds-addends-i c = store_in_4 c.requires.1 c.loop-i.invariant c.loop-i-test.true c.in-Ok.ensures c.loop-i.auto.addends

pub loop-i-preserved : goal.loop-i-preserved
loop-i-preserved c = store_more c.requires.1 c.loop-i.invariant c.loop-i-test.true c.in-Ok.ensures (search rules)

pub returns : goal.returns
returns c = store_end c.requires.1 c.loop-i.invariant c.loop-i-test.false
