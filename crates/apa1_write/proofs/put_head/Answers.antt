use Rattle.apa1_write.proofs.EntryNeeds.{headings}
use Rattle.apa1_write.proofs.put_head.Goals as goal

pub put_identifier-at-requires : goal.put_identifier-at-requires
put_identifier-at-requires c = search headings

pub write_signed-requires : goal.write_signed-requires
write_signed-requires c = search headings

pub returns : goal.returns
returns c = search headings
