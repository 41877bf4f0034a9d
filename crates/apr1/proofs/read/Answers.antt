use Rattle.apr1_table.specs.Contract.Laws.{fillable, reads_full}
use Rattle.records.proofs.Reading.{calls}
use borrow.Author.Rules.{rules}
use Rattle.apr1.proofs.read.Goals as goal

pub returns-then-offsets-count : goal.returns-then-offsets-count
returns-then-offsets-count c = search calls

pub fill-requires : goal.fill-requires
fill-requires c = search (fillable, rules)

pub returns-in-Err : goal.returns-in-Err
returns-in-Err c = search calls

pub returns-else-offsets-count : goal.returns-else-offsets-count
returns-else-offsets-count c = search (reads_full, rules)
