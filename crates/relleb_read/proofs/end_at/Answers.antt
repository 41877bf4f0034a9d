use Rattle.relleb_read.proofs.EntryNeeds.{record_ends}
use Rattle.relleb_read.proofs.end_at.Goals as goal

pub returns : goal.returns
returns c = record_ends _ _ _ _ c.in_ok-kind_at.ensures c.in_ok-symbol_at.ensures _ c.end_symbol.ensures
