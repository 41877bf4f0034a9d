use borrow.Author.Rules.{rules}
use Rattle.leb128.proofs.Answers.{run_next, plain_unsigned}
use Rattle.leb128.proofs.end_unsigned.Goals as goal

pub overflow_add-result-then-plain_unsigned : goal.overflow_add-result-then-plain_unsigned
overflow_add-result-then-plain_unsigned c = run_next c.args.strict _ _ _ (search rules) c.in-Ok.ensures (search rules)

pub returns-then-plain_unsigned : goal.returns-then-plain_unsigned
returns-then-plain_unsigned c = plain_unsigned _ _ _ _ (search rules) c.in-Ok.ensures c.plain_unsigned.ensures c.if-plain_unsigned.true
