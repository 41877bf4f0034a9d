use Rattle.relr_write.proofs.EntryNeeds.{locating}
use Rattle.relr_write.proofs.packer.locate.Goals as goal

pub returns-then-j-window : goal.returns-then-j-window
returns-then-j-window c = search locating

pub returns : goal.returns
returns c = search locating
