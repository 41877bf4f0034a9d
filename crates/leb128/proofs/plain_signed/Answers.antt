use Prim.Native.Nat.{ℕ}
use mathlib.Core.Path.{◌≡◌}
use native.Mathlib.Omega.{arith}
use Rattle.leb128.proofs.Answers.{plain_few_signed, plain_in_signed}
use Rattle.leb128.proofs.plain_signed.Goals as goal

pub padded_signed-requires : goal.padded_signed-requires
padded_signed-requires c = (record { low_lt = c.requires.0.low_lt; digit = c.requires.0.digit }, c.requires.2)

pub returns-then-padded_signed : goal.returns-then-padded_signed
returns-then-padded_signed c = λ h. (let z : ◌≡◌ {A = ℕ} 0 1 = cc in absurd (omega arith))

pub returns-then-k-width : goal.returns-then-k-width
returns-then-k-width c = plain_few_signed c.args.strict _ _ _ _ c.padded_signed.ensures c.if-padded_signed.false c.requires.0 c.if-k-width.true

pub returns : goal.returns
returns c = plain_in_signed c.args.strict _ _ _ _ c.padded_signed.ensures c.if-padded_signed.false c.requires.0 c.turned.ensures.0 c.below.ensures
