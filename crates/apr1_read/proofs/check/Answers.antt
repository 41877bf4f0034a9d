use Rattle.answer.specs.Outcome.{input_limit}
use Rattle.apr1_read.proofs.PassNeeds.{scans}
use borrow.Author.Rules.{rules}
use Rattle.apr1_read.proofs.check.Goals as goal

pub returns-then-s-gt-INPUT_LIMIT : goal.returns-then-s-gt-INPUT_LIMIT
unfolding input_limit
returns-then-s-gt-INPUT_LIMIT c = search scans

pub scan-requires : goal.scan-requires
unfolding input_limit
scan-requires c = search rules

pub returns : goal.returns
unfolding input_limit
returns c = search scans
