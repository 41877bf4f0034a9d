use Rattle.apr1_read.proofs.PassNeeds.{fill_able, fill_walkable, fill_is, fill_not}
use Rattle.apr1_read.proofs.fill.Goals as goal

pub returns-in_default : goal.returns-in_default
returns-in_default c = fill_not _ _ _ c.in_default.ensures.0 c.requires

pub store-requires : goal.store-requires
store-requires c =
    (fill_able _ _ c.in-Ok.ensures.0 _ c.requires, fill_walkable _ _ c.in-Ok.ensures.0 _ c.requires c.in-Ok.ensures.1)

pub returns : goal.returns
returns c = fill_is _ _ c.in-Ok.ensures.0 _ c.requires c.store.ensures
