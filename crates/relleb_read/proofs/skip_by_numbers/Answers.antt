use borrow.Author.Rules.{rules}
use Rattle.answer.specs.Outcome.Laws.{handed_on}
use Rattle.relleb_read.proofs.EntryNeeds.{skip_none, skip_type, skip_symbol, skip_same, skip_other}
use Rattle.relleb_read.proofs.skip_by_numbers.Goals as goal

pub returns-in_err-kind_at : goal.returns-in_err-kind_at
returns-in_err-kind_at c = rw (handed_on _ c.in_err-kind_at.field-0.0 c.from_residual.ensures.1) (skip_none _ _ _ _ c.in_err-kind_at.ensures)

pub returns-in_err-symbol_at : goal.returns-in_err-symbol_at
returns-in_err-symbol_at c =
    rw (handed_on _ c.in_err-symbol_at.field-0.0 c.from_residual-in_err-symbol_at.ensures.1) (skip_type _ _ _ _ c.in_ok-kind_at.ensures c.in_err-symbol_at.ensures)

pub returns-in_err-field : goal.returns-in_err-field
returns-in_err-field c =
    rw (handed_on _ c.in_err-field.field-0.0 c.from_residual-in_err-field.ensures.1)
    (skip_symbol _ _ _ _ c.in_ok-kind_at.ensures c.in_ok-symbol_at.ensures c.in_err-field.ensures)

pub returns-then-is_negative : goal.returns-then-is_negative
returns-then-is_negative c =
    skip_other _ _ _ _ c.in_ok-kind_at.ensures c.in_ok-symbol_at.ensures c.in_ok-field.ensures c.is_negative.ensures (search rules)
    c.if-is_negative.true c.skip_addend.ensures

pub returns : goal.returns
returns c =
    skip_same _ _ _ _ c.in_ok-kind_at.ensures c.in_ok-symbol_at.ensures c.in_ok-field.ensures c.is_negative.ensures (search rules) c.if-is_negative.false
