use Rattle.answer.specs.Outcome.Laws.{handed_on}
use Rattle.apa1_read.proofs.EntryNeeds.{skip_not, skip_not_2, skip_is}
use Rattle.apa1_read.proofs.skip_by_numbers.Goals as goal

pub returns-in_err-next : goal.returns-in_err-next
returns-in_err-next c = rw (handed_on _ c.in_err-next.field-0.0 c.from_residual.ensures.1) (skip_not _ _ _ c.in_err-next.ensures)

pub returns-in_err-past : goal.returns-in_err-past
returns-in_err-past c = rw (handed_on _ c.in_err-past.field-0.0 c.from_residual-in_err-past.ensures.1) (skip_not_2 _ _ _ c.in_ok-next.ensures c.in_err-past.ensures)

pub returns : goal.returns
returns c = skip_is _ _ _ c.in_ok-next.ensures c.in_ok-past.ensures
