use Rattle.relr_read.proofs.PassNeeds.{reads}
use Rattle.relr_read.proofs.read_class.Goals as goal

pub returns-then-offsets-n : goal.returns-then-offsets-n
returns-then-offsets-n c = search reads

pub fill_class-requires : goal.fill_class-requires
fill_class-requires c = search reads

pub returns-in-Err : goal.returns-in-Err
returns-in-Err c = search reads

pub returns-else-offsets-n : goal.returns-else-offsets-n
returns-else-offsets-n c = search reads
