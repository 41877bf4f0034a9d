use Rattle.apr1_write.proofs.PassNeeds.{fills}
use Rattle.apr1_write.proofs.fill.Goals as goal

pub put_head-at-requires : goal.put_head-at-requires
put_head-at-requires c = search fills

pub put_pairs-requires : goal.put_pairs-requires
put_pairs-requires c = search fills

pub returns : goal.returns
returns c = search fills
