use Rattle.relr_read.proofs.PassNeeds.{readings}
use Rattle.relr_read.proofs.fill.Goals as goal

pub loop-at-init : goal.loop-at-init
loop-at-init c = search readings

pub bounds-column-i : goal.bounds-column-i
bounds-column-i c = search readings

pub loop-at-preserved-then-x-eq0 : goal.loop-at-preserved-then-x-eq0
loop-at-preserved-then-x-eq0 c = search readings

pub fill_bitmap-i-requires : goal.fill_bitmap-i-requires
fill_bitmap-i-requires c = search readings

pub loop-at-preserved : goal.loop-at-preserved
loop-at-preserved c = search readings

pub returns : goal.returns
returns c = search readings
