use mathlib.Core.Path.{ap, refl, ◌∙◌}
use borrow.Author.Rules.{rules}
use Rattle.answer.specs.Outcome.Laws.{handed_on}
use Rattle.relleb_read.specs.Inner.{entry_step}
use Rattle.relleb_read.proofs.EntryNeeds.{addend_none, addend_one}
use Rattle.relleb_read.proofs.with_addend.Goals as goal

pub returns-in_err-change : goal.returns-in_err-change
returns-in_err-change c = ap entry_step (handed_on _ c.in_err-change.field-0.0 c.from_residual.ensures.1) ∙ addend_none _ _ _ _ _ _ _ _ c.in_err-change.ensures

pub returns : goal.returns
returns c =
    addend_one _ _ _ _ _ _ _ _ c.in_ok-change.ensures refl c.add_signed-addend.ensures
    (search rules) (search rules) (search rules)
