use Rattle.apa1_table.specs.Contract.Laws.{reading}
use Rattle.apa1.proofs.read.Goals as goal

pub returns-then-offsets-addends : goal.returns-then-offsets-addends
returns-then-offsets-addends c = search reading

pub returns-then-offsets-count : goal.returns-then-offsets-count
returns-then-offsets-count c = search reading

pub fill-requires : goal.fill-requires
fill-requires c = search reading

pub returns-in-Err : goal.returns-in-Err
returns-in-Err c = search reading

pub returns-else-offsets-count : goal.returns-else-offsets-count
returns-else-offsets-count c = search reading
