use borrow.Author.Rules.{rules}
use Rattle.apr1_read.proofs.EntryNeeds.{head_none, head_bad, head_far, head_in_law}
use Rattle.apr1_read.proofs.head_of.Goals as goal

pub returns-then-not-starts_with : goal.returns-then-not-starts_with
returns-then-not-starts_with c = head_none _ _ c.starts_with.ensures (search rules)

pub returns-in_err-pairs : goal.returns-in_err-pairs
returns-in_err-pairs c = head_bad _ _ c.starts_with.ensures (search rules) _ c.from_residual.ensures.1 c.in_err-pairs.ensures

pub returns-then-offset-gt-LAST : goal.returns-then-offset-gt-LAST
returns-then-offset-gt-LAST c = head_far _ _ c.starts_with.ensures (search rules) c.in_ok-pairs.ensures (search rules)

pub returns : goal.returns
returns c = head_in_law _ _ c.starts_with.ensures (search rules) c.in_ok-pairs.ensures (search rules)
