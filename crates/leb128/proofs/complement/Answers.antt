use Prim.Native.Nat.{◌*◌, ◌%◌, ◌^◌}
use mathlib.Core.Path.{◌≡◌, ◌∙◌}
use native.Mathlib.Nat.{one-mul}
use native.Mathlib.Omega.{arith}
use lib.Dec.{lit<}
use lib.Pow.{pow_pos}
use Rattle.leb128.proofs.Reading.{shl_is}
use borrow.Author.Rules.{rules}
use Rattle.leb128.proofs.complement.Goals as goal

pub overflow_sub-result : goal.overflow_sub-result
overflow_sub-result c =
    let power : 1 * 2 ^ (7 * c.args.k) % 2 ^ 64 ≡ 2 ^ (7 * c.args.k) = shl_is {d = 1} 1 (7 * c.args.k) (lit< tt) (search rules) ∙ one-mul _ in
    rw power (pow_pos _)

pub overflow_sub-result-2 : goal.overflow_sub-result-2
overflow_sub-result-2 c =
    let power : 1 * 2 ^ (7 * c.args.k) % 2 ^ 64 ≡ 2 ^ (7 * c.args.k) = shl_is {d = 1} 1 (7 * c.args.k) (lit< tt) (search rules) ∙ one-mul _ in
    rw power (omega arith)

pub returns : goal.returns
returns c =
    let power : 1 * 2 ^ (7 * c.args.k) % 2 ^ 64 ≡ 2 ^ (7 * c.args.k) = shl_is {d = 1} 1 (7 * c.args.k) (lit< tt) (search rules) ∙ one-mul _ in
    rw power
