use Rattle.relleb_table.specs.Contract.Laws.{writing}
use Rattle.relleb.proofs.write.Goals as goal

pub returns-in_default : goal.returns-in_default
returns-in_default c = search writing

pub returns-then-not-same_length : goal.returns-then-not-same_length
returns-then-not-same_length c = search writing

pub measure-requires : goal.measure-requires
measure-requires c = search writing

pub returns-then-table-need : goal.returns-then-table-need
returns-then-table-need c = search writing

pub fill-requires : goal.fill-requires
fill-requires c = (search writing, record { same = search writing; fits = search writing })

pub returns-in-Err : goal.returns-in-Err
returns-in-Err c = search writing

pub returns-else-table-need : goal.returns-else-table-need
returns-else-table-need c = search writing
