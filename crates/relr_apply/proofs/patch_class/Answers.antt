use Rattle.relr_apply.proofs.PassNeeds.{classes}
use Rattle.relr_apply.proofs.patch_class.Goals as goal

pub patch_by-requires : goal.patch_by-requires
patch_by-requires c = search classes

pub patch_by-requires-in-Four-Big : goal.patch_by-requires-in-Four-Big
patch_by-requires-in-Four-Big c = search classes

pub patch_by-requires-in-Eight-Little : goal.patch_by-requires-in-Eight-Little
patch_by-requires-in-Eight-Little c = search classes

pub patch_by-requires-in-Eight-Big : goal.patch_by-requires-in-Eight-Big
patch_by-requires-in-Eight-Big c = search classes
