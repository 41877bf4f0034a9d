use Rattle.listing.proofs.RowNeeds.{lines}
use Rattle.listing.proofs.rows.put_rows.Goals as goal

pub loop-i-init : goal.loop-i-init
loop-i-init c = search lines

pub loop-i-preserved : goal.loop-i-preserved
loop-i-preserved c = search lines
