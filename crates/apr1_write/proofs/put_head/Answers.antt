use Rattle.apr1_write.proofs.EntryNeeds.{lengths}
use Rattle.apr1_write.proofs.put_head.Goals as goal

pub put_identifier-at-requires : goal.put_identifier-at-requires
put_identifier-at-requires c = search lengths

pub put_pair-requires : goal.put_pair-requires
put_pair-requires c = search lengths

pub returns : goal.returns
returns c = search lengths
