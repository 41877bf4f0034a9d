use Rattle.relr_apply.proofs.PassNeeds.{patchings}
use Rattle.relr_apply.proofs.patch_marks.Goals as goal

pub loop-bits-init : goal.loop-bits-init
loop-bits-init c = search patchings

pub add_at-requires : goal.add_at-requires
add_at-requires c = search patchings

pub loop-bits-preserved : goal.loop-bits-preserved
loop-bits-preserved c = search patchings

pub returns : goal.returns
returns c = search patchings
