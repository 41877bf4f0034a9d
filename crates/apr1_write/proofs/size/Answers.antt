use Rattle.apr1_write.proofs.PassNeeds.{sizes}
use Rattle.apr1_write.proofs.size.Goals as goal

pub returns-then-a-gt-LAST : goal.returns-then-a-gt-LAST
returns-then-a-gt-LAST c = search sizes

pub loop-i-init : goal.loop-i-init
loop-i-init c = search sizes

pub returns-then-y-gt-LAST : goal.returns-then-y-gt-LAST
returns-then-y-gt-LAST c = search sizes

pub returns-then-y-x : goal.returns-then-y-x
returns-then-y-x c = search sizes

pub overflow_add-bytes : goal.overflow_add-bytes
overflow_add-bytes c = search sizes

pub loop-i-preserved : goal.loop-i-preserved
loop-i-preserved c = search sizes

pub overflow_add-result : goal.overflow_add-result
overflow_add-result c = search sizes

pub returns : goal.returns
returns c = search sizes
