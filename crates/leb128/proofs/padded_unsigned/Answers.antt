-- src/lib.rt:140:13
use Rattle.leb128.proofs.Padding.{paddings}
use Rattle.leb128.proofs.padded_unsigned.Goals as goal

pub returns-then-k-gt0 : goal.returns-then-k-gt0
returns-then-k-gt0 c = search paddings

-- src/lib.rt:142:9
pub returns-then-strict : goal.returns-then-strict
returns-then-strict c = search paddings
