use Rattle.apa1_write.proofs.EntryNeeds.{lengths}
use Rattle.apa1_write.proofs.entry_len.Goals as goal

pub overflow_add-result : goal.overflow_add-result
overflow_add-result c = search lengths

pub returns : goal.returns
returns c = search lengths
