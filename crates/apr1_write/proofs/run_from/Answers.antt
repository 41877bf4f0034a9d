use Rattle.apr1_write.proofs.EntryNeeds.{counts}
use Rattle.apr1_write.proofs.run_from.Goals as goal

pub loop-i-init : goal.loop-i-init
loop-i-init c = search counts

pub loop-i-preserved : goal.loop-i-preserved
loop-i-preserved c = search counts
