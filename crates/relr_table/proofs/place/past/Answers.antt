use Rattle.relr_table.proofs.PlaceNeeds.{opening}
use Rattle.relr_table.proofs.place.past.Goals as goal

pub returns-then-last-u : goal.returns-then-last-u
returns-then-last-u c = search opening
