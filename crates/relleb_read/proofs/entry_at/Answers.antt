use mathlib.Core.Path.{ap, ◌∙◌}
use borrow.Author.Rules.{rules}
use Rattle.answer.specs.Outcome.Laws.{handed_on}
use Rattle.relleb_read.specs.Inner.{entry_step}
use Rattle.relleb_read.proofs.EntryNeeds.{offset_none, offset_more}
use Rattle.relleb_read.proofs.entry_at.Goals as goal

pub returns-in_err-d : goal.returns-in_err-d
returns-in_err-d c = ap entry_step (handed_on _ c.in_err-d.field-0.0 c.from_residual.ensures.1) ∙ offset_none _ _ _ _ _ _ _ c.in_err-d.ensures

pub returns : goal.returns
returns c = offset_more _ _ _ _ _ _ _ c.in_ok-d.ensures c.add-offset.ensures (search rules) c.with_type.ensures
