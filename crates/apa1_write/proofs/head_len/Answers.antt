use Rattle.apa1_write.proofs.EntryNeeds.{headings}
use Rattle.apa1_write.proofs.head_len.Goals as goal

pub overflow_add-result : goal.overflow_add-result
overflow_add-result c = search headings

pub returns : goal.returns
returns c = search headings
