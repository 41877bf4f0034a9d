use mathlib.Core.Path.{sym, ◌∙◌}
use Rattle.answer.specs.Outcome.Laws.{handed_on}
use Rattle.cases.proofs.Caller.{pairs}
use Rattle.cases.proofs.leb.read_u32.Goals as goal

pub overflow_cast-result : goal.overflow_cast-result
overflow_cast-result c = search pairs

pub returns-in_err-v : goal.returns-in_err-v
returns-in_err-v c = handed_on _ c.in_err-v.field-0.0 c.from_residual.ensures.1 ∙ sym c.in_err-v.was ∙ c.read_unsigned.ensures

pub returns : goal.returns
returns c = search pairs
