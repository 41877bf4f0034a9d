use borrow.Author.Rules.{rules}
use Rattle.leb128.proofs.Answers.{run_next, plain_number}
use Rattle.leb128.proofs.end_signed.Goals as goal

pub overflow_add-past-then-plain_signed : goal.overflow_add-past-then-plain_signed
overflow_add-past-then-plain_signed c = run_next c.args.strict _ _ _ (search rules) c.in-Ok.ensures (search rules)

pub returns-then-plain_signed : goal.returns-then-plain_signed
returns-then-plain_signed c = plain_number _ _ _ _ (search rules) c.in-Ok.ensures c.plain_signed.ensures c.if-plain_signed.true
