use Rattle.apa1_table.specs.Contract.Laws.{writing}
use Rattle.apa1.proofs.write.Goals as goal

pub returns-then-offsets-addends : goal.returns-then-offsets-addends
returns-then-offsets-addends c = search writing

pub returns-then-table-need : goal.returns-then-table-need
returns-then-table-need c = search writing

pub fill-requires : goal.fill-requires
fill-requires c = search writing

pub returns-in-Err : goal.returns-in-Err
returns-in-Err c = search writing

pub returns-else-table-need : goal.returns-else-table-need
returns-else-table-need c = search writing
