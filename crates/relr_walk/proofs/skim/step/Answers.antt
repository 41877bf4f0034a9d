use Rattle.relr_walk.proofs.SkimNeeds.{steps}
use Rattle.relr_walk.proofs.skim.step.Goals as goal

pub returns-then-within : goal.returns-then-within
returns-then-within c = search steps

pub returns-then-within-2 : goal.returns-then-within-2
returns-then-within-2 c = search steps
