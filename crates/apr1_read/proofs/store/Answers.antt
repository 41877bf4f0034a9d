use Rattle.apr1_read.proofs.PassNeeds.{starts}
use Rattle.apr1_read.proofs.store.Goals as goal

pub bounds-column-0 : goal.bounds-column-0
bounds-column-0 c = search starts

pub store_pairs-requires : goal.store_pairs-requires
store_pairs-requires c = search starts

pub returns : goal.returns
returns c = search starts
