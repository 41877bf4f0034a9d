use Rattle.relr_write.proofs.PassNeeds.{puttings}
use Rattle.relr_write.proofs.put.Goals as goal

pub loop-i-init : goal.loop-i-init
loop-i-init c = search puttings

pub pack-requires : goal.pack-requires
pack-requires c = search puttings

pub loop-i-preserved-in-Joined : goal.loop-i-preserved-in-Joined
loop-i-preserved-in-Joined c = search puttings

pub put_word-at-requires : goal.put_word-at-requires
put_word-at-requires c = search puttings

pub loop-i-smaller-in-Flushed : goal.loop-i-smaller-in-Flushed
loop-i-smaller-in-Flushed c = search puttings

pub loop-i-preserved-in-Flushed : goal.loop-i-preserved-in-Flushed
loop-i-preserved-in-Flushed c = search (c.loop-i.invariant, c.pack.ensures, c.put_word-at.ensures, puttings)

pub put_word-at-requires-in-Alone : goal.put_word-at-requires-in-Alone
put_word-at-requires-in-Alone c = search puttings

pub loop-i-preserved : goal.loop-i-preserved
loop-i-preserved c = search puttings

pub returns : goal.returns
returns c = search puttings
