use mathlib.Core.Path.{◌∙◌}
use Rattle.answer.specs.Outcome.Laws.{handed_on}
use Rattle.relleb_read.proofs.PassNeeds.{scan_not, scan_is}
use Rattle.relleb_read.proofs.scan.Goals as goal

pub returns-in_err-count : goal.returns-in_err-count
returns-in_err-count c = handed_on _ c.in_err-count.field-0.0 c.from_residual.ensures.1 ∙ scan_not _ _ _ c.in_err-count.ensures

pub returns : goal.returns
returns c = scan_is _ _ _ c.in_ok-count.ensures c.walk.ensures
