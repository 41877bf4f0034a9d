use Rattle.answer.specs.Outcome.{list_limit}
use Rattle.apr1_write.proofs.PassNeeds.{measures}
use borrow.Author.Rules.{rules}
use Rattle.apr1_write.proofs.measure.Goals as goal

pub returns-then-offsets-gt-LIST_LIMIT : goal.returns-then-offsets-gt-LIST_LIMIT
unfolding list_limit
returns-then-offsets-gt-LIST_LIMIT c = search measures

pub returns-then-is_empty : goal.returns-then-is_empty
returns-then-is_empty c = search measures

pub size-requires : goal.size-requires
unfolding list_limit
size-requires c = search rules

pub returns : goal.returns
unfolding list_limit
returns c = search measures
