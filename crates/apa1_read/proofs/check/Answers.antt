use Rattle.answer.specs.Outcome.{input_limit}
use Rattle.apa1_read.proofs.PassNeeds.{check_over, check_in}
use Rattle.apa1_read.proofs.check.Goals as goal

pub returns-then-s-gt-INPUT_LIMIT : goal.returns-then-s-gt-INPUT_LIMIT
unfolding input_limit
returns-then-s-gt-INPUT_LIMIT c = check_over _ _ c.if-s-gt-INPUT_LIMIT.true

pub returns : goal.returns
unfolding input_limit
returns c = check_in _ _ c.if-s-gt-INPUT_LIMIT.false c.scan.ensures
