use Rattle.relr_write.proofs.PassNeeds.{stores}
use Rattle.relr_write.proofs.put_word.Goals as goal

pub returns : goal.returns
returns c = search stores
