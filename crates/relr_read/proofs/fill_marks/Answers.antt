use Rattle.relr_read.proofs.PassNeeds.{markings}
use Rattle.relr_read.proofs.fill_marks.Goals as goal

pub overflow_add-column : goal.overflow_add-column
overflow_add-column c = search markings

pub bounds-column-i : goal.bounds-column-i
bounds-column-i c = search markings

pub loop-bits-preserved : goal.loop-bits-preserved
loop-bits-preserved c = search markings

pub returns : goal.returns
returns c = search markings
