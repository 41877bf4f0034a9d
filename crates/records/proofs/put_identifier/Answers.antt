use Rattle.records.proofs.Identifier.{copies}
use Rattle.records.proofs.put_identifier.Goals as goal

pub returns : goal.returns
returns c = search copies
