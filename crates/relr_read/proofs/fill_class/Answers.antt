use Rattle.relr_read.proofs.PassNeeds.{classes}
use Rattle.relr_read.proofs.fill_class.Goals as goal

pub fill_by-requires : goal.fill_by-requires
fill_by-requires c = search classes

pub fill_by-requires-in-Four-Big : goal.fill_by-requires-in-Four-Big
fill_by-requires-in-Four-Big c = search classes

pub fill_by-requires-in-Eight-Little : goal.fill_by-requires-in-Eight-Little
fill_by-requires-in-Eight-Little c = search classes

pub fill_by-requires-in-Eight-Big : goal.fill_by-requires-in-Eight-Big
fill_by-requires-in-Eight-Big c = search classes
