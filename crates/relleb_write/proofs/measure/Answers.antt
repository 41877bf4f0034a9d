use Rattle.answer.specs.Outcome.{list_limit}
use Rattle.relleb_write.proofs.PassNeeds.{measure_over}
use Rattle.relleb_write.proofs.measure.Goals as goal

pub returns-then-offsets-gt-LIST_LIMIT : goal.returns-then-offsets-gt-LIST_LIMIT
unfolding list_limit
returns-then-offsets-gt-LIST_LIMIT c = measure_over _ c.requires c.if-offsets-gt-LIST_LIMIT.true
