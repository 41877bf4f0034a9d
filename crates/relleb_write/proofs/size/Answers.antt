use borrow.Author.Rules.{rules}
use Rattle.relleb_write.proofs.PassNeeds.{size_begin, size_bad, size_sum, size_more, size_end}
use Rattle.relleb_write.proofs.size.Goals as goal

pub loop-i-init : goal.loop-i-init
loop-i-init c = size_begin _ c.requires.1 c.unsigned_len-total.ensures

pub returns-in-Err : goal.returns-in-Err
returns-in-Err c = size_bad c.in-Err.ensures c.loop-i.invariant c.requires.1 c.loop-i-test.true (search rules) c.type_inv.offsets

pub overflow_add-total : goal.overflow_add-total
overflow_add-total c = size_sum c.requires.1 c.loop-i.invariant _ _ _ _ c.loop-i-test.true (search rules) c.in-Ok.ensures c.fields_len-total.ensures

pub loop-i-preserved : goal.loop-i-preserved
loop-i-preserved c = size_more c.requires.1 c.loop-i.invariant _ _ _ _ c.loop-i-test.true (search rules) c.in-Ok.ensures c.fields_len-total.ensures

pub returns : goal.returns
returns c = size_end c.requires.1 c.loop-i.invariant c.loop-i-test.false c.requires.0 c.type_inv.types c.type_inv.symbols
