use mathlib.Core.Path.{ap, ◌∙◌}
use borrow.Author.Rules.{rules}
use Rattle.answer.specs.Outcome.Laws.{handed_on}
use Rattle.apa1_read.specs.Inner.{entry_step}
use Rattle.apa1_read.proofs.EntryNeeds.{entry_not, entry_not_2, entry_is}
use Rattle.apa1_read.proofs.entry_at.Goals as goal

pub returns-in_err-d : goal.returns-in_err-d
returns-in_err-d c = ap entry_step (handed_on _ c.in_err-d.field-0.0 c.from_residual.ensures.1) ∙ entry_not _ _ _ _ _ c.in_err-d.ensures

pub returns-in_err-e : goal.returns-in_err-e
returns-in_err-e c =
    ap entry_step (handed_on _ c.in_err-e.field-0.0 c.from_residual-in_err-e.ensures.1) ∙ entry_not_2 _ _ _ _ _ c.in_ok-d.ensures c.in_err-e.ensures

pub returns : goal.returns
returns c =
    entry_is _ _ _ _ _ c.in_ok-d.ensures c.in_ok-e.ensures c.moved.ensures c.add_signed.ensures (search rules) (search rules) (search rules) (search rules)
