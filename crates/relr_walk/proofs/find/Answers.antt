use Rattle.answer.specs.Outcome.{input_limit}
use Rattle.relr_walk.proofs.PassNeeds.{finding}
use Rattle.relr_walk.proofs.find.Goals as goal

pub returns-then-s-gt-INPUT_LIMIT : goal.returns-then-s-gt-INPUT_LIMIT
unfolding input_limit
returns-then-s-gt-INPUT_LIMIT c = search finding

pub returns-then-rest-gt0 : goal.returns-then-rest-gt0
unfolding input_limit
returns-then-rest-gt0 c = search finding

pub pass_class-passed-requires : goal.pass_class-passed-requires
unfolding input_limit
pass_class-passed-requires c = search finding

pub returns-then-s-passed : goal.returns-then-s-passed
unfolding input_limit
returns-then-s-passed c = search finding

pub scan-requires : goal.scan-requires
unfolding input_limit
scan-requires c = search finding

pub returns : goal.returns
unfolding input_limit
returns c = search finding
