use Rattle.relr_write.proofs.PassNeeds.{leavings}
use Rattle.relr_write.proofs.fill.Goals as goal

pub put_word-requires : goal.put_word-requires
put_word-requires c = search leavings

pub returns-then-rest-gt0 : goal.returns-then-rest-gt0
returns-then-rest-gt0 c = search leavings
