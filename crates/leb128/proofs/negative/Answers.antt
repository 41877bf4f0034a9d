use mir.Syntax.{w64}
use mir.Facts.{to_z-of_z}
use Rattle.leb128.proofs.Signs.{minus_is}
use Rattle.leb128.proofs.negative.Goals as goal

pub overflow_sub-result : goal.overflow_sub-result
overflow_sub-result c = rw (minus_is c.requires) (record { sfits = c.requires })

pub returns : goal.returns
returns c = rw (minus_is c.requires) (to_z-of_z {w = w64} (record { sfits = c.requires }))
