use mathlib.Core.Path.{ap, ◌∙◌}
use borrow.Author.Rules.{rules}
use Rattle.answer.specs.Outcome.Laws.{handed_on}
use Rattle.relleb_read.specs.Inner.{entry_step}
use Rattle.relleb_read.proofs.EntryNeeds.{type_none, type_more, type_fits}
use Rattle.relleb_read.proofs.with_type.Goals as goal

pub returns-in_err-d : goal.returns-in_err-d
returns-in_err-d c = ap entry_step (handed_on _ c.in_err-d.field-0.0 c.from_residual.ensures.1) ∙ type_none _ _ _ _ _ _ _ _ c.in_err-d.ensures

pub overflow_cast-kind : goal.overflow_cast-kind
overflow_cast-kind c = type_fits _ c.moved-kind.ensures

pub returns : goal.returns
returns c =
    type_more _ _ _ _ _ _ _ _ c.in_ok-d.ensures (search rules) c.moved-kind.ensures (search rules) c.with_symbol.ensures
