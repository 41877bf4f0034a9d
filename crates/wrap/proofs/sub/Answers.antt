use Rattle.wrap.proofs.Words.{sums}
use Rattle.wrap.proofs.sub.Goals as goal

pub returns : goal.returns
returns c = search sums
