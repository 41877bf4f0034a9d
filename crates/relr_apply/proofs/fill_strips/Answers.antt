use Rattle.relr_apply.proofs.StripNeeds.{fillings}
use Rattle.relr_apply.proofs.fill_strips.Goals as goal

pub loop-e-preserved : goal.loop-e-preserved
loop-e-preserved c = search fillings
