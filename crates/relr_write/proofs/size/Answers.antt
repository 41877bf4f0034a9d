use Rattle.relr_write.proofs.PassNeeds.{sizings}
use Rattle.relr_write.proofs.size.Goals as goal

pub returns-in-Err : goal.returns-in-Err
returns-in-Err c = search sizings

pub loop-i-preserved-in-Joined : goal.loop-i-preserved-in-Joined
loop-i-preserved-in-Joined c = (search (c.loop-i.invariant.0, c.faulty.ensures, c.pack.ensures, sizings), search sizings)

pub loop-i-preserved : goal.loop-i-preserved
loop-i-preserved c = (search sizings, search sizings)

pub returns : goal.returns
returns c = search sizings
