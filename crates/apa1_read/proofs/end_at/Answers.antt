use Rattle.apa1_read.proofs.EntryNeeds.{record_ends}
use Rattle.apa1_read.proofs.end_at.Goals as goal

pub returns : goal.returns
returns c = record_ends _ _ _ _ c.in_ok-next.ensures c.end_number-2.ensures
