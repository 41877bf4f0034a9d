use Rattle.relr_apply.proofs.PassNeeds.{runnings}
use Rattle.relr_apply.proofs.patch_run.Goals as goal

pub loop-j-init : goal.loop-j-init
loop-j-init c = search runnings

pub add_at-requires : goal.add_at-requires
add_at-requires c = search runnings

pub loop-j-preserved : goal.loop-j-preserved
loop-j-preserved c = search runnings

pub returns : goal.returns
returns c = search runnings
