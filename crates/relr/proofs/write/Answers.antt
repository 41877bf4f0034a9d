use Rattle.relr_table.specs.Contract.Laws.{writing}
use Rattle.relr.proofs.write.Goals as goal

pub returns-in_default : goal.returns-in_default
returns-in_default c = search writing

pub returns : goal.returns
returns c = search writing
