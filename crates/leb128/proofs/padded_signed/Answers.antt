use borrow.Author.Rules.{rules}
use Rattle.answer.specs.Bytes.{bytes_of_law}
use Rattle.leb128.proofs.Padding.{one_signed, repeats_plus, repeats_minus, repeats_none, before_inside, before_fits, never_lax}
use Rattle.leb128.proofs.padded_signed.Goals as goal

pub overflow_add-result : goal.overflow_add-result
overflow_add-result c = before_fits _ _ _ _ _ c.requires.1 c.if-k-gt0.true (search rules)

pub bounds-s-at : goal.bounds-s-at
bounds-s-at c = before_inside _ _ _ _ _ c.requires.1 c.if-k-gt0.true

pub returns-then-b-eq0 : goal.returns-then-b-eq0
returns-then-b-eq0 c =
    let begin = c.before in
    repeats_plus begin.args.strict begin.args.s.now begin.args.at _ _ (bytes_of_law begin.args.s.now (λ i. (c.type_inv.s i).fits)) c.if-strict.true _ begin.requires.0 begin.requires.1
    c.if-k-gt0.true c.if-b-eq0.true

pub overflow_add-result-then-b-eq127 : goal.overflow_add-result-then-b-eq127
overflow_add-result-then-b-eq127 c = before_fits _ _ _ _ _ c.requires.1 c.if-k-gt0.true (search rules)

pub bounds-s-at-then-b-eq127 : goal.bounds-s-at-then-b-eq127
bounds-s-at-then-b-eq127 c = before_inside _ _ _ _ _ c.requires.1 c.if-k-gt0.true

pub returns-then-b-eq127 : goal.returns-then-b-eq127
returns-then-b-eq127 c =
    let begin = c.before in
    repeats_minus begin.args.strict begin.args.s.now begin.args.at _ _ (bytes_of_law begin.args.s.now (λ i. (c.type_inv.s i).fits)) c.if-strict.true _ begin.requires.0 begin.requires.1
    c.if-k-gt0.true c.if-b-eq127.true

pub returns-else-b-eq127 : goal.returns-else-b-eq127
returns-else-b-eq127 c =
    let begin = c.before in
    repeats_none begin.args.strict _ _ _ begin.requires.0 c.if-k-gt0.true c.if-b-eq0.false c.if-b-eq127.false

pub returns-else-k-gt0 : goal.returns-else-k-gt0
returns-else-k-gt0 c = one_signed c.args.strict _ _ _ c.requires.0 c.if-k-gt0.false

pub returns-else-strict : goal.returns-else-strict
returns-else-strict c = never_lax c.args.strict _ _ c.if-strict.false
