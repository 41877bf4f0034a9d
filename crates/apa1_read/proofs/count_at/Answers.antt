use mathlib.Core.Path.{◌∙◌}
use borrow.Author.Rules.{rules}
use Rattle.answer.specs.Outcome.Laws.{handed_on}
use Rattle.apa1_read.proofs.EntryNeeds.{count_bad, count_is}
use Rattle.apa1_read.proofs.count_at.Goals as goal

pub returns-in_err-n : goal.returns-in_err-n
returns-in_err-n c = handed_on _ c.in_err-n.field-0.0 c.from_residual.ensures.1 ∙ count_bad _ _ c.in_err-n.ensures

pub returns : goal.returns
returns c = count_is _ _ c.in_ok-n.ensures c.magnitude.ensures.0 (search rules)
