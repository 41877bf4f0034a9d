use borrow.Author.Rules.{rules}
use Rattle.apr1_write.proofs.PassNeeds.{write_not, write_short, write_full}
use Rattle.apr1.proofs.write.Goals as goal

pub returns-then-table-need : goal.returns-then-table-need
returns-then-table-need c = write_short _ _ c.in-Ok.ensures (search rules) (search rules)

pub returns-in-Err : goal.returns-in-Err
returns-in-Err c = write_not _ _ c.in-Err.ensures c.into.ensures

pub returns-else-table-need : goal.returns-else-table-need
returns-else-table-need c = write_full _ _ c.in-Ok.ensures (search rules) c.fill.ensures c.accept.ensures
