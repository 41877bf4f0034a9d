use Prim.Native.Nat.{ℕ}
use mathlib.Core.Path.{◌≡◌}
use native.Mathlib.Omega.{arith}
use Rattle.leb128.proofs.Answers.{plain_few, plain_in}
use Rattle.leb128.proofs.plain_unsigned.Goals as goal

pub returns-then-padded_unsigned : goal.returns-then-padded_unsigned
returns-then-padded_unsigned c = λ h. (let z : ◌≡◌ {A = ℕ} 0 1 = cc in absurd (omega arith))

pub returns-then-k-width : goal.returns-then-k-width
returns-then-k-width c = plain_few c.args.strict _ _ _ _ c.padded_unsigned.ensures c.if-padded_unsigned.false c.requires.0 c.if-k-width.true

pub returns : goal.returns
returns c = plain_in c.args.strict _ _ _ _ c.padded_unsigned.ensures c.if-padded_unsigned.false c.requires.0 c.below.ensures
