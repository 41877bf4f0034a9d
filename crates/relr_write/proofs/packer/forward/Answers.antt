use Rattle.relr_write.proofs.EntryNeeds.{locating}
use Rattle.relr_write.proofs.packer.forward.Goals as goal

pub returns-then-place-last : goal.returns-then-place-last
returns-then-place-last c = search locating

pub returns : goal.returns
returns c = search locating
