use Rattle.wrap.proofs.Words.{words}
use Rattle.wrap.proofs.low.Goals as goal

pub nonzero_rem-result : goal.nonzero_rem-result
nonzero_rem-result c = search words

pub returns-then-width-lt64 : goal.returns-then-width-lt64
returns-then-width-lt64 c = search words

pub returns : goal.returns
returns c = search words
