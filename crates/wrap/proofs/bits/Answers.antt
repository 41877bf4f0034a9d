use Rattle.wrap.proofs.Words.{wording}
use Rattle.wrap.proofs.bits.Goals as goal

pub returns-then-is_negative : goal.returns-then-is_negative
returns-then-is_negative c = search wording

pub returns : goal.returns
returns c = search wording
