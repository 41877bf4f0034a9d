use Rattle.answer.specs.Outcome.{list_limit}
use Rattle.relr_write.proofs.PassNeeds.{measures}
use Rattle.relr_write.proofs.measure.Goals as goal

pub returns-then-offsets-gt-LIST_LIMIT : goal.returns-then-offsets-gt-LIST_LIMIT
unfolding list_limit
returns-then-offsets-gt-LIST_LIMIT c = search measures

pub size_by-requires : goal.size_by-requires
unfolding list_limit
size_by-requires c = search measures

pub size_by-requires-in-Eight : goal.size_by-requires-in-Eight
unfolding list_limit
size_by-requires-in-Eight c = search measures

pub returns-in-Four : goal.returns-in-Four
unfolding list_limit
returns-in-Four c = search measures

pub returns-in-Eight : goal.returns-in-Eight
unfolding list_limit
returns-in-Eight c = search measures
