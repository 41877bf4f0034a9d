use Rattle.relleb_read.proofs.EntryNeeds.{symbol_ends, symbol_goes}
use Rattle.relleb_read.proofs.end_symbol.Goals as goal

pub returns-then-negative : goal.returns-then-negative
returns-then-negative c = symbol_goes _ _ _ _ c.in_ok-past.ensures c.if-negative.true _ c.end_addend.ensures

pub returns : goal.returns
returns c = symbol_ends _ _ _ _ c.in_ok-past.ensures c.if-negative.false
