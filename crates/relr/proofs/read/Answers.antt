use Rattle.relr_table.specs.Contract.Laws.{reading}
use Rattle.relr.proofs.read.Goals as goal

pub returns-in_default : goal.returns-in_default
returns-in_default c = search reading

pub returns : goal.returns
returns c = search reading
