use Rattle.std.proofs.Common.{ℕ, ◌+◌, refl}
use Rattle.word.proofs.Shapes.{load_four}
use Rattle.word.proofs.load4.Goals as goal

pub returns : goal.returns
returns c =
    let small = λ (i : ℕ). (c.type_inv.s i).fits in
    rw c.from_le_bytes.ensures (load_four c.args.s.now c.args.at c.requires refl refl refl refl (small c.args.at) (small (c.args.at + 1)) (small (c.args.at + 2)) (small (c.args.at + 3)))
