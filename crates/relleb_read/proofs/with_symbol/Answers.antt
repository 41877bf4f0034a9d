use mathlib.Core.Path.{ap, ◌∙◌}
use borrow.Author.Rules.{rules}
use Rattle.answer.specs.Outcome.Laws.{handed_on}
use Rattle.relleb_read.specs.Inner.{entry_step}
use Rattle.relleb_read.proofs.EntryNeeds.{symbol_none, symbol_fits, symbol_more, symbol_one}
use Rattle.relleb_read.proofs.with_symbol.Goals as goal

pub returns-in_err-field : goal.returns-in_err-field
returns-in_err-field c = ap entry_step (handed_on _ c.in_err-field.field-0.0 c.from_residual.ensures.1) ∙ symbol_none _ _ _ _ _ _ _ c.in_err-field.ensures

pub symbol_in-symbol-requires : goal.symbol_in-symbol-requires
symbol_in-symbol-requires c = symbol_fits _ c.args.width _ _ c.args.now.offset c.args.now.kind c.args.now.addend c.in_ok-field.ensures (search rules)

pub returns-then-is_negative : goal.returns-then-is_negative
returns-then-is_negative c =
    symbol_more _ _ _ _ _ _ _ c.in_ok-field.ensures (search rules) c.symbol_in-symbol.ensures c.is_negative.ensures c.if-is_negative.true c.with_addend.ensures

pub returns : goal.returns
returns c =
    symbol_one _ _ _ _ _ _ _ c.in_ok-field.ensures (search rules) c.symbol_in-symbol.ensures c.is_negative.ensures c.if-is_negative.false
