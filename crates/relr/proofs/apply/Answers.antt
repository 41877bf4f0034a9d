use Rattle.relr_table.specs.Contract.Laws.{applies}
use Rattle.relr.proofs.apply.Goals as goal

pub returns-in_default : goal.returns-in_default
returns-in_default c = search applies

pub returns : goal.returns
returns c = search applies
