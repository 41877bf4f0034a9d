use Rattle.answer.specs.Outcome.{list_limit}
use borrow.Author.Rules.{rules}
use Rattle.apa1_write.proofs.PassNeeds.{measure_over}
use Rattle.apa1_write.proofs.measure.Goals as goal

pub returns-then-offsets-gt-LIST_LIMIT : goal.returns-then-offsets-gt-LIST_LIMIT
unfolding list_limit
returns-then-offsets-gt-LIST_LIMIT c = measure_over c.requires c.if-offsets-gt-LIST_LIMIT.true

pub size-requires : goal.size-requires
unfolding list_limit
size-requires c = search rules
