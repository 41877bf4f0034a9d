use Rattle.leb128.proofs.Length.{digits}
use Rattle.leb128.proofs.count_digits.Goals as goal

pub overflow_mul-odd : goal.overflow_mul-odd
overflow_mul-odd c = search digits

pub overflow_add-odd : goal.overflow_add-odd
overflow_add-odd c = search digits

pub overflow_cast-zeros : goal.overflow_cast-zeros
overflow_cast-zeros c = search digits

pub overflow_sub-result : goal.overflow_sub-result
overflow_sub-result c = search digits

pub overflow_add-result : goal.overflow_add-result
overflow_add-result c = search digits

pub returns : goal.returns
returns c = search digits
