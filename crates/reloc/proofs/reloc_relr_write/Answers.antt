use Rattle.relr_table.specs.Contract.Laws.{orders}
use Rattle.reloc.proofs.reloc_relr_write.Goals as goal

pub write-requires : goal.write-requires
write-requires c = search orders

pub shape_of-table : goal.shape_of-table
shape_of-table c = search orders

pub returns : goal.returns
returns c = search orders
