use mathlib.Core.Path.{sym}
use Prim.Native.Nat.{◌^◌}
use native.Mathlib.Nat.{one-mul}
use native.Mathlib.Omega.{arith}
use borrow.Author.Rules.{rules}
use borrow.Author.Tests.{lt-ltb}
use lib.Dec.{lit<}
use lib.Pow.{pow_mono}
use Rattle.leb128.proofs.Reading.{shl_is}
use Rattle.leb128.proofs.below.Goals as goal

pub returns-then-room-lt7 : goal.returns-then-room-lt7
returns-then-room-lt7 c = rw (shl_is {d = 1} 1 c.args.room (lit< tt) (search rules), one-mul)

pub returns : goal.returns
returns c = sym (lt-ltb c.args.d (2 ^ c.args.room) (omega (arith, pow_mono c.if-room-lt7.false)))
