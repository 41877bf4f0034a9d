use Rattle.word.proofs.Shapes.{words}
use Rattle.word.proofs.load8.Goals as goal

pub returns : goal.returns
returns c = search words
