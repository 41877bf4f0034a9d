use mathlib.Core.Path.{◌∙◌}
use Rattle.answer.specs.Outcome.Laws.{handed_on}
use Rattle.relleb_read.proofs.PassNeeds.{walks, walk_more, walk_bad}
use Rattle.relleb_read.proofs.walk.Goals as goal

pub loop-init : goal.loop-init
loop-init c = search walks

pub returns-in_err-from : goal.returns-in_err-from
returns-in_err-from c =
    handed_on _ c.in_err-from.field-0.0 c.from_residual.ensures.1 ∙ walk_bad c.loop.invariant c.loop-test.true c.in_err-from.ensures

pub loop-preserved : goal.loop-preserved
loop-preserved c = walk_more c.loop.invariant c.loop-test.true c.in_ok-from.ensures

pub returns-then-from-s : goal.returns-then-from-s
returns-then-from-s c = search walks

pub returns : goal.returns
returns c = search walks
