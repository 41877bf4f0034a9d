use Rattle.relr_walk.proofs.SkimNeeds.{nears}
use Rattle.relr_walk.proofs.skim.step_near.Goals as goal

pub returns-then-within : goal.returns-then-within
returns-then-within c = search nears
