use Rattle.relr_apply.proofs.PassNeeds.{bitmaps}
use Rattle.relr_apply.proofs.patch_bitmap.Goals as goal

pub patch_window-requires : goal.patch_window-requires
patch_window-requires c = search bitmaps
