use Rattle.relr_table.specs.Contract.Laws.{orders}
use Rattle.reloc.proofs.reloc_relr_read.Goals as goal

pub read-requires : goal.read-requires
read-requires c = search orders

pub shape_of-offsets : goal.shape_of-offsets
shape_of-offsets c = search orders

pub returns : goal.returns
returns c = search orders
