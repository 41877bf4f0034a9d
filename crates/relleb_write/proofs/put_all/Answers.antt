use borrow.Author.Rules.{rules}
use Rattle.relleb_write.proofs.PassNeeds.{put_begin, put_bad, put_room, put_more, put_end}
use Rattle.relleb_write.proofs.put_all.Goals as goal

pub loop-i-init : goal.loop-i-init
loop-i-init c = put_begin _ _ _ _ _ _ _

pub returns-in_default : goal.returns-in_default
returns-in_default c = put_bad c.requires.1 c.loop-i.invariant c.loop-i-test.true (search rules) c.in_default.ensures

pub put_fields-at-requires : goal.put_fields-at-requires
put_fields-at-requires c = put_room c.requires.1 c.loop-i.invariant c.loop-i-test.true (search rules) _ _ _ _ c.in-Ok.ensures

pub loop-i-preserved : goal.loop-i-preserved
loop-i-preserved c = put_more c.requires.1 c.loop-i.invariant c.loop-i-test.true (search rules) _ _ _ _ c.in-Ok.ensures c.put_fields-at.ensures

pub returns : goal.returns
returns c = put_end c.requires.1 c.loop-i.invariant c.loop-i-test.false
