use Rattle.relleb_read.proofs.PassNeeds.{fill_not, fill_able, fill_is}
use Rattle.relleb_read.proofs.fill.Goals as goal

pub returns-in_default : goal.returns-in_default
returns-in_default c = fill_not _ _ _ c.requires.1 c.in_default.ensures

pub store-requires : goal.store-requires
store-requires c = (c.requires.0, fill_able _ _ _ c.requires.1 c.in-Ok.ensures)

pub returns : goal.returns
returns c = fill_is _ _ _ c.requires.1 c.in-Ok.ensures c.store.ensures
