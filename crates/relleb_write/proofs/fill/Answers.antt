use Rattle.relleb_write.proofs.PassNeeds.{fills}
use Rattle.relleb_write.proofs.fill.Goals as goal

pub write_unsigned-at-requires : goal.write_unsigned-at-requires
write_unsigned-at-requires c = search fills

pub put_all-requires : goal.put_all-requires
put_all-requires c = search fills

pub returns : goal.returns
returns c = search fills
