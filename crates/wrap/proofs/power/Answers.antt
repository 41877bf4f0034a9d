use Rattle.wrap.proofs.Words.{words}
use Rattle.wrap.proofs.power.Goals as goal

pub returns : goal.returns
returns c = search words
