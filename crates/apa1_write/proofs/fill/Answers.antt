use Rattle.apa1_write.proofs.PassNeeds.{fills}
use Rattle.apa1_write.proofs.fill.Goals as goal

pub put_head-at-requires : goal.put_head-at-requires
put_head-at-requires c = search fills

pub put_all-requires : goal.put_all-requires
put_all-requires c = search fills

pub returns : goal.returns
returns c = search fills
