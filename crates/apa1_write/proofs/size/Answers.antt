use native.Mathlib.Omega.{arith}
use lib.ListN.{length}
use borrow.Author.Rules.{rules}
use Rattle.std.proofs.lemmas.Slice.Zip.{zip_turn, zip_end}
use Rattle.answer.specs.Outcome.Laws.{long_more}
use Rattle.apa1_write.proofs.PassNeeds.{Turn, size_begin, size_sum, size_more, size_end}
use Rattle.apa1_write.proofs.size.Goals.{After-entry_len-total}
use Rattle.apa1_write.proofs.size.Goals as goal

-- this turn's pair
turn : (c : After-entry_len-total) → Turn c.args.offsets.now c.args.addends.now (length c.loop-offset.yielded) c.in-Some.field-0-0.now c.in-Some.field-0-1.now
turn c =
    zip_turn c.args.offsets.now c.args.addends.now c.loop-offset.yielded _ _ c.next.new.self _ (search rules) (search rules) c.loop-offset.yielded_by _ c.in-Some.is c.next.ensures.steps

pub loop-offset-init : goal.loop-offset-init
loop-offset-init c = size_begin c.requires c.head_len-total.ensures

pub overflow_add-total : goal.overflow_add-total
overflow_add-total c = size_sum c.requires c.loop-offset.invariant (turn c) (search rules) c.entry_len-total.ensures

pub loop-offset-preserved : goal.loop-offset-preserved
loop-offset-preserved c = rw long_more (size_more c.requires c.loop-offset.invariant (turn c) (search rules) c.entry_len-total.ensures)

pub returns : goal.returns
returns c =
    let e = zip_end c.args.offsets.now c.args.addends.now c.loop-offset.yielded _ _ c.next.new.self _ (search rules) (search rules) c.loop-offset.yielded_by c.in-None.is c.next.ensures.steps in
    size_end c.requires c.loop-offset.invariant (omega (arith, e, c.requires.same)) c.type_inv.offsets
