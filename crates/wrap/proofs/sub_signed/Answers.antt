use Rattle.wrap.proofs.Words.{sums}
use Rattle.wrap.proofs.sub_signed.Goals as goal

pub signed-requires : goal.signed-requires
signed-requires c = search sums

pub returns : goal.returns
returns c = search sums
