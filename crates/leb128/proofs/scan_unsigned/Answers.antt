use mathlib.Core.Path.{◌∙◌}
use borrow.Author.Rules.{rules}
use Rattle.answer.specs.Outcome.Laws.{handed_on}
use Rattle.leb128.proofs.Answers.{none_unsigned, fits_unsigned, long_form_unsigned, over_unsigned, over_place_unsigned, run_next}
use Rattle.leb128.proofs.scan_unsigned.Goals as goal

pub returns-in_err-run : goal.returns-in_err-run
returns-in_err-run c =
    handed_on _ c.in_err-run.field-0.0 c.from_residual.ensures.1 ∙ none_unsigned _ _ _ _ (search rules) c.in_err-run.ensures

pub overflow_add-result : goal.overflow_add-result
overflow_add-result c = over_place_unsigned c.args.strict _ _ _ (search rules) c.in_ok-run.ensures c.in_default.ensures (search rules)

pub returns-in_default : goal.returns-in_default
returns-in_default c = over_unsigned _ _ _ _ (search rules) c.in_ok-run.ensures c.in_default.ensures

pub returns-then-padded_unsigned : goal.returns-then-padded_unsigned
returns-then-padded_unsigned c =
    long_form_unsigned _ _ _ _ (search rules) c.in_ok-run.ensures c.in-Some.ensures c.padded_unsigned.ensures c.if-padded_unsigned.true

pub overflow_add-next-2 : goal.overflow_add-next-2
overflow_add-next-2 c = run_next c.args.strict _ _ _ (search rules) c.in_ok-run.ensures (search rules)

pub returns : goal.returns
returns c = fits_unsigned _ _ _ _ (search rules) c.in_ok-run.ensures c.in-Some.ensures c.padded_unsigned.ensures c.if-padded_unsigned.false
