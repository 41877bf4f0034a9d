use Rattle.wrap.proofs.Words.{tests}
use Rattle.wrap.proofs.equal.Goals as goal

pub returns : goal.returns
returns c = search tests
