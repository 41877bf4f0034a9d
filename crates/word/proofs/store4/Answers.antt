use Rattle.word.proofs.Shapes.{store_four}
use Rattle.word.proofs.store4.Goals as goal

pub returns : goal.returns
returns c = store_four c.args.s.now c.args.at c.args.w c.to_le_bytes.ensures
