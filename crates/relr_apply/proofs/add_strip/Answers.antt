use Rattle.relr_apply.proofs.StripNeeds.{alongs}
use Rattle.relr_apply.proofs.add_strip.Goals as goal

pub loop-j-preserved : goal.loop-j-preserved
loop-j-preserved c = search alongs

pub returns : goal.returns
returns c = search alongs
