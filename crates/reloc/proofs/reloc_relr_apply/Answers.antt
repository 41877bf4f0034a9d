use Rattle.relr_table.specs.Contract.Laws.{orders}
use Rattle.reloc.proofs.reloc_relr_apply.Goals as goal

pub apply-requires : goal.apply-requires
apply-requires c = search orders

pub shape_of-image : goal.shape_of-image
shape_of-image c = search orders

pub returns : goal.returns
returns c = search orders
