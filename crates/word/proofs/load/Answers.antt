use Rattle.word.proofs.Shapes.{words}
use Rattle.word.proofs.load.Goals as goal

pub returns : goal.returns
returns c = search words
