use Rattle.std.proofs.Common.{◌≡◌, ◌+◌, ◌*◌, ◌/◌, ◌%◌, arith}
use Rattle.word.proofs.Shapes.{swap_four}
use Rattle.word.proofs.swap4.Goals as goal

pub returns : goal.returns
returns c =
    let w = c.args.w in
    let e : c.swap_bytes.result ≡ w / 16777216 % 256 + w / 65536 % 256 * 256 + w / 256 % 256 * 65536 + w % 256 * 16777216 = omega arith in
    (rw e (swap_four w), c.swap_bytes.type_inv)
