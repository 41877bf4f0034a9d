use Rattle.relleb_write.proofs.EntryNeeds.{offset_puts}
use Rattle.relleb_write.proofs.put_fields.Goals as goal

pub write_unsigned-next-requires : goal.write_unsigned-next-requires
write_unsigned-next-requires c = search offset_puts

pub put_type-requires : goal.put_type-requires
put_type-requires c = search offset_puts

pub returns : goal.returns
returns c = search offset_puts
