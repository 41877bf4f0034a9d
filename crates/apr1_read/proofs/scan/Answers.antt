use Rattle.apr1_read.proofs.PassNeeds.{scan_not, scan_is}
use Rattle.apr1_read.proofs.scan.Goals as goal

pub returns-in_err-head : goal.returns-in_err-head
returns-in_err-head c = scan_not _ _ _ c.from_residual.ensures.1 c.in_err-head.ensures.0

pub returns : goal.returns
returns c = scan_is _ _ c.in_ok-head.ensures.0 c.walk.ensures
