use Rattle.relleb_write.proofs.EntryNeeds.{type_puts}
use Rattle.relleb_write.proofs.put_type.Goals as goal

pub write_signed-next-requires : goal.write_signed-next-requires
write_signed-next-requires c = search type_puts

pub put_symbol-requires : goal.put_symbol-requires
put_symbol-requires c = search type_puts

pub returns : goal.returns
returns c = search type_puts
