use Rattle.relr_write.proofs.EntryNeeds.{packing}
use Rattle.relr_write.proofs.packer.pack.Goals as goal

pub returns-then-p-gt0 : goal.returns-then-p-gt0
returns-then-p-gt0 c = search packing

pub returns-in-Some : goal.returns-in-Some
returns-in-Some c = search packing

pub returns-else-p-gt0 : goal.returns-else-p-gt0
returns-else-p-gt0 c = search packing
