use Rattle.apr1_read.proofs.PassNeeds.{runs}
use Rattle.apr1_read.proofs.fill_run.Goals as goal

pub loop-z-init : goal.loop-z-init
loop-z-init c = search runs

pub loop-z-preserved : goal.loop-z-preserved
loop-z-preserved c = search runs

pub returns : goal.returns
returns c = search runs
