use mathlib.Core.Path.{◌∙◌}
use Rattle.answer.specs.Outcome.Laws.{handed_on}
use Rattle.apa1_read.proofs.PassNeeds.{walk_begin, walk_more, walk_bad, walk_end, walk_over}
use Rattle.apa1_read.proofs.walk.Goals as goal

pub loop-init : goal.loop-init
loop-init c = walk_begin _ _ _ _

pub returns-in_err-at : goal.returns-in_err-at
returns-in_err-at c =
    handed_on _ c.in_err-at.field-0.0 c.from_residual.ensures.1 ∙ walk_bad c.loop.invariant c.loop-test.true c.in_err-at.ensures

pub loop-preserved : goal.loop-preserved
loop-preserved c = walk_more c.loop.invariant c.loop-test.true c.in_ok-at.ensures

pub returns-then-at-s : goal.returns-then-at-s
returns-then-at-s c = walk_over c.loop.invariant c.loop-test.false c.if-at-s.true

pub returns : goal.returns
returns c = walk_end c.loop.invariant c.loop-test.false c.if-at-s.false
