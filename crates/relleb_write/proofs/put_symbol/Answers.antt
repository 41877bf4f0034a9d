use Rattle.relleb_write.proofs.EntryNeeds.{symbol_puts}
use Rattle.relleb_write.proofs.put_symbol.Goals as goal

pub write_signed-next-requires : goal.write_signed-next-requires
write_signed-next-requires c = search symbol_puts

pub write_signed-requires : goal.write_signed-requires
write_signed-requires c = search symbol_puts

pub returns-then-is_negative : goal.returns-then-is_negative
returns-then-is_negative c = search symbol_puts

pub returns : goal.returns
returns c = search symbol_puts
