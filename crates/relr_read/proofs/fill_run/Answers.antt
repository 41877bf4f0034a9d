use Rattle.relr_read.proofs.PassNeeds.{runnings}
use Rattle.relr_read.proofs.fill_run.Goals as goal

pub slice_bounds-location-items-end : goal.slice_bounds-location-items-end
slice_bounds-location-items-end c = search runnings

pub loop-location-preserved : goal.loop-location-preserved
loop-location-preserved c = search runnings

pub returns : goal.returns
returns c = search runnings
