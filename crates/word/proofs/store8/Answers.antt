use Rattle.word.proofs.Shapes.{words}
use Rattle.word.proofs.store8.Goals as goal

pub returns : goal.returns
returns c = search words
