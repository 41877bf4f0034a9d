use Rattle.relr_walk.proofs.PassNeeds.{count_all}
use Rattle.relr_walk.proofs.count.Goals as goal

pub returns : goal.returns
returns c = count_all c.args.k c.last.result c.last.ensures c.args.table.now c.find.ensures
