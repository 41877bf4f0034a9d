use Rattle.apa1_write.proofs.EntryNeeds.{puttings}
use Rattle.apa1_write.proofs.put_entry.Goals as goal

pub write_signed-next-requires : goal.write_signed-next-requires
write_signed-next-requires c = search puttings

pub write_signed-requires : goal.write_signed-requires
write_signed-requires c = search puttings

pub returns : goal.returns
returns c = search puttings
