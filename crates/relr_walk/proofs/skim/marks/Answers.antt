use Rattle.relr_walk.proofs.SkimNeeds.{tallies}
use Rattle.relr_walk.proofs.skim.marks.Goals as goal

pub returns : goal.returns
returns c = search tallies
