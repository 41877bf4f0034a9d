use Rattle.word.proofs.Shapes.{words}
use Rattle.word.proofs.turn.Goals as goal

pub returns-in-Little-default : goal.returns-in-Little-default
returns-in-Little-default c = search words
