use Rattle.wrap.proofs.Words.{signing}
use Rattle.wrap.proofs.signed.Goals as goal

pub positive-requires : goal.positive-requires
positive-requires c = search signing

pub returns-then-b-half : goal.returns-then-b-half
returns-then-b-half c = search signing

pub overflow_sub-half : goal.overflow_sub-half
overflow_sub-half c = search signing

pub overflow_sub-half-2 : goal.overflow_sub-half-2
overflow_sub-half-2 c = search signing

pub negative-requires : goal.negative-requires
negative-requires c = search signing

pub returns : goal.returns
returns c = search signing
