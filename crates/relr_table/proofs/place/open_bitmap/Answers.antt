use Rattle.relr_table.proofs.PlaceNeeds.{opening}
use Rattle.relr_table.proofs.place.open_bitmap.Goals as goal

pub returns-then-place-last : goal.returns-then-place-last
returns-then-place-last c = search opening

pub returns-then-place-eq-NOWHERE : goal.returns-then-place-eq-NOWHERE
returns-then-place-eq-NOWHERE c = search opening

pub returns-then-bits-ne0 : goal.returns-then-bits-ne0
returns-then-bits-ne0 c = search opening

pub returns : goal.returns
returns c = search opening
