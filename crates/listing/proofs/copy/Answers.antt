use Rattle.listing.proofs.CopyNeeds.{copies}
use Rattle.listing.proofs.copy.Goals as goal

pub returns-then-text-count : goal.returns-then-text-count
returns-then-text-count c = search copies

pub returns : goal.returns
returns c = search copies
