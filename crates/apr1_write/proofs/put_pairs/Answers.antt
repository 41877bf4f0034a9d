use Rattle.apr1_write.proofs.PassNeeds.{puttings}
use Rattle.apr1_write.proofs.put_pairs.Goals as goal

pub loop-j-init : goal.loop-j-init
loop-j-init c = search puttings

pub put_pair-at-requires : goal.put_pair-at-requires
put_pair-at-requires c = search puttings

pub loop-j-preserved : goal.loop-j-preserved
loop-j-preserved c = search puttings

pub returns : goal.returns
returns c = search puttings
