use mathlib.Core.Path.{refl}
use borrow.Author.Rules.{rules}
use Rattle.leb128.proofs.turned.Goals as goal

pub returns-then-neg : goal.returns-then-neg
returns-then-neg c = rw c.if-neg.true (refl, search rules)
