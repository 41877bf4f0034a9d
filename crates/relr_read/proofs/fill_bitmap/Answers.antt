use Rattle.relr_read.proofs.PassNeeds.{bitmaps}
use Rattle.relr_read.proofs.fill_bitmap.Goals as goal

pub returns-then-set-full_bits : goal.returns-then-set-full_bits
returns-then-set-full_bits c = search bitmaps

pub returns : goal.returns
returns c = search bitmaps
