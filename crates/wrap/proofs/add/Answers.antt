use Rattle.wrap.proofs.Words.{sums}
use Rattle.wrap.proofs.add.Goals as goal

pub returns : goal.returns
returns c = search sums
