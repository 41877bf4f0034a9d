use Rattle.relr_table.proofs.PlaceNeeds.{opening}
use Rattle.relr_table.proofs.place.open.Goals as goal

pub returns-then-x-eq0 : goal.returns-then-x-eq0
returns-then-x-eq0 c = search opening

pub returns : goal.returns
returns c = search opening
