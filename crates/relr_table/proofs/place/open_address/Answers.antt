use Rattle.relr_table.proofs.PlaceNeeds.{opening}
use Rattle.relr_table.proofs.place.open_address.Goals as goal

pub returns-then-last-x : goal.returns-then-last-x
returns-then-last-x c = search opening

pub returns : goal.returns
returns c = search opening
