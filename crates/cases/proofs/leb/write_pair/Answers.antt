use Rattle.cases.proofs.Caller.{pairs}
use Rattle.cases.proofs.leb.write_pair.Goals as goal

pub returns : goal.returns
returns c = search pairs
