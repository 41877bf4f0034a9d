use mathlib.Core.Path.{◌∙◌}
use borrow.Author.Rules.{rules}
use Rattle.answer.specs.Outcome.Laws.{handed_on}
use Rattle.apa1_read.proofs.EntryNeeds.{head_none, head_bad, head_negative, head_count_law}
use Rattle.apa1_read.proofs.head_of.Goals as goal

pub returns-then-not-starts_with : goal.returns-then-not-starts_with
returns-then-not-starts_with c = head_none _ _ c.starts_with.ensures c.if-not-starts_with.true

pub returns-in_err-n : goal.returns-in_err-n
returns-in_err-n c =
    handed_on _ c.in_err-n.field-0.0 c.from_residual.ensures.1 ∙ head_bad _ _ c.starts_with.ensures c.if-not-starts_with.false c.in_err-n.ensures

pub returns-then-is_negative : goal.returns-then-is_negative
returns-then-is_negative c =
    head_negative _ _ c.starts_with.ensures c.if-not-starts_with.false c.in_ok-n.ensures c.is_negative.ensures (search rules) c.if-is_negative.true

pub returns : goal.returns
returns c =
    head_count_law _ _ c.starts_with.ensures c.if-not-starts_with.false c.in_ok-n.ensures c.is_negative.ensures (search rules) c.if-is_negative.false c.count_at.ensures
