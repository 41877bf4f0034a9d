use Rattle.relr_write.proofs.PassNeeds.{writes}
use Rattle.relr_write.proofs.write_class.Goals as goal

pub returns-then-table-need : goal.returns-then-table-need
returns-then-table-need c = search writes

pub fill-requires : goal.fill-requires
fill-requires c = search writes

pub returns-in-Err : goal.returns-in-Err
returns-in-Err c = search writes

pub returns-else-table-need : goal.returns-else-table-need
returns-else-table-need c = search writes
