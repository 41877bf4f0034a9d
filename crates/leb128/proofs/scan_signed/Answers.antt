use mathlib.Core.Path.{◌∙◌}
use mir.Syntax.{w64}
use mir.Facts.{to_z-of_z}
use borrow.Author.Rules.{rules}
use Rattle.answer.specs.Outcome.Laws.{handed_on}
use Rattle.leb128.proofs.Answers.{none_signed, fits_signed, long_form_signed, over_signed, over_place_signed, run_next}
use Rattle.leb128.proofs.scan_signed.Goals as goal

pub returns-in_err-run : goal.returns-in_err-run
returns-in_err-run c =
    handed_on _ c.in_err-run.field-0.0 c.from_residual.ensures.1 ∙ none_signed _ _ _ _ (search rules) c.in_err-run.ensures

pub overflow_add-end : goal.overflow_add-end
overflow_add-end c = over_place_signed c.args.strict _ _ _ (search rules) c.in_ok-run.ensures c.in_default.ensures (search rules)

pub returns-in_default : goal.returns-in_default
returns-in_default c = over_signed _ _ _ _ (search rules) c.in_ok-run.ensures c.in_default.ensures

pub returns-then-padded_signed : goal.returns-then-padded_signed
returns-then-padded_signed c =
    long_form_signed _ _ _ _ (search rules) c.in_ok-run.ensures c.in-Some.ensures c.padded_signed.ensures c.if-padded_signed.true

pub overflow_add-past-2 : goal.overflow_add-past-2
overflow_add-past-2 c = run_next c.args.strict _ _ _ (search rules) c.in_ok-run.ensures (search rules)

pub returns : goal.returns
returns c =
    rw (to_z-of_z {w = w64} {z = c.in-Some.v} (search rules))
    (fits_signed _ _ _ _ (search rules) c.in_ok-run.ensures c.in-Some.ensures c.padded_signed.ensures c.if-padded_signed.false)
