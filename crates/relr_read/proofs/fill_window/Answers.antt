use Rattle.relr_read.proofs.PassNeeds.{spreadings}
use Rattle.relr_read.proofs.fill_window.Goals as goal

pub loop-j-preserved : goal.loop-j-preserved
loop-j-preserved c = search spreadings

pub returns : goal.returns
returns c = search spreadings
