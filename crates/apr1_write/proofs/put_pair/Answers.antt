use Rattle.apr1_write.proofs.EntryNeeds.{lengths}
use Rattle.apr1_write.proofs.put_pair.Goals as goal

pub write_unsigned-next-requires : goal.write_unsigned-next-requires
write_unsigned-next-requires c = search lengths

pub write_unsigned-requires : goal.write_unsigned-requires
write_unsigned-requires c = search lengths

pub returns : goal.returns
returns c = search lengths
