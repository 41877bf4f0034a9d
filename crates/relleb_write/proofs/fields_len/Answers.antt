use Rattle.relleb_write.proofs.EntryNeeds.{lengths}
use Rattle.relleb_write.proofs.fields_len.Goals as goal

pub overflow_add-three : goal.overflow_add-three
overflow_add-three c = search lengths

pub overflow_add-three-2 : goal.overflow_add-three-2
overflow_add-three-2 c = search lengths

pub overflow_add-result : goal.overflow_add-result
overflow_add-result c = search lengths

pub returns-then-is_negative : goal.returns-then-is_negative
returns-then-is_negative c = search lengths

pub returns : goal.returns
returns c = search lengths
