use Rattle.leb128.proofs.Answers.{single_unsigned}
use Rattle.leb128.proofs.read_unsigned.Goals as goal

pub returns-then-width-gt6 : goal.returns-then-width-gt6
returns-then-width-gt6 c =
    let e = c.in-Some.ensures.lookup in
    single_unsigned _ _ _ _ _ e.0 e.1 c.if-b-lt128.true c.if-width-gt6.true
