use Rattle.leb128.proofs.Answers.{singles}
use Rattle.leb128.proofs.signed_byte.Goals as goal

pub positive-requires : goal.positive-requires
positive-requires c = search singles

pub returns-then-b-lt64 : goal.returns-then-b-lt64
returns-then-b-lt64 c = search singles

pub overflow_sub-b : goal.overflow_sub-b
overflow_sub-b c = search singles

pub negative-requires : goal.negative-requires
negative-requires c = search singles

pub returns : goal.returns
returns c = search singles
