use Rattle.word.proofs.Shapes.{words}
use Rattle.word.proofs.store.Goals as goal

pub returns : goal.returns
returns c = search words
