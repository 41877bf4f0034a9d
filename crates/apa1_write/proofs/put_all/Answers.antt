use native.Mathlib.Omega.{arith}
use lib.ListN.{length}
use borrow.Author.Rules.{rules}
use Rattle.std.proofs.lemmas.Slice.Zip.{zip_turn, zip_end}
use Rattle.answer.specs.Outcome.Laws.{long_more}
use Rattle.apa1_write.proofs.PassNeeds.{Turn, put_begin, put_room, put_more, put_end}
use Rattle.apa1_write.proofs.put_all.Goals.{In-Some}
use Rattle.apa1_write.proofs.put_all.Goals as goal

-- this turn's pair
turn : (c : In-Some) → Turn c.args.offsets.now c.args.addends.now (length c.loop-offset.yielded) c.in-Some.field-0-0.now c.in-Some.field-0-1.now
turn c =
    zip_turn c.args.offsets.now c.args.addends.now c.loop-offset.yielded _ _ c.next.new.self _ (search rules) (search rules) c.loop-offset.yielded_by _ c.in-Some.is c.next.ensures.steps

pub loop-offset-init : goal.loop-offset-init
loop-offset-init c = put_begin _ _ _ _

pub put_entry-at-requires : goal.put_entry-at-requires
put_entry-at-requires c = put_room c.requires c.loop-offset.invariant (turn (goal.at.put_entry-at-requires c).In-Some) (search rules)

pub loop-offset-preserved : goal.loop-offset-preserved
loop-offset-preserved c = rw long_more (put_more c.requires c.loop-offset.invariant (turn (goal.at.loop-offset-preserved c).In-Some) (search rules) c.put_entry-at.ensures)

pub returns : goal.returns
returns c =
    let e = zip_end c.args.offsets.now c.args.addends.now c.loop-offset.yielded _ _ c.next.new.self _ (search rules) (search rules) c.loop-offset.yielded_by c.in-None.is c.next.ensures.steps in
    put_end c.requires c.loop-offset.invariant (omega (arith, e, c.requires.same))
