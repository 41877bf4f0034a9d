use mir.Syntax.{w64}
use mir.Facts.{to_z-of_z}
use Rattle.leb128.proofs.Answers.{single_signed}
use Rattle.leb128.proofs.read_signed.Goals as goal

pub returns-then-width-gt6 : goal.returns-then-width-gt6
returns-then-width-gt6 c =
    let e = c.in-Some.ensures.lookup in
    rw (to_z-of_z {w = w64} {z = c.signed_byte.result} (record { sfits = c.signed_byte.type_inv }))
    (single_signed _ _ _ _ _ e.0 e.1 c.if-b-lt128.true c.if-width-gt6.true c.signed_byte.ensures)
