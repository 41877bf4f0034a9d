use borrow.Author.Rules.{rules}
use Rattle.relleb_table.specs.Contract.Laws.{fillable, reading}
use Rattle.relleb.proofs.read.Goals as goal

pub returns-in_default : goal.returns-in_default
returns-in_default c = search reading

pub returns-then-not-same_length : goal.returns-then-not-same_length
returns-then-not-same_length c = search reading

pub check-requires : goal.check-requires
check-requires c = search reading

pub returns-then-offsets-count : goal.returns-then-offsets-count
returns-then-offsets-count c = search reading

pub fill-requires : goal.fill-requires
fill-requires c =
    (search reading, fillable _ _ _ _ _ _ _ c.check.ensures c.in-Ok.is c.same_length.ensures (search rules) c.if-offsets-count.false)

pub returns-in-Err : goal.returns-in-Err
returns-in-Err c = search reading

pub returns-else-offsets-count : goal.returns-else-offsets-count
returns-else-offsets-count c = search reading
