use Rattle.std.proofs.Common.{rules}
use Rattle.relr_apply.proofs.PassNeeds.{applies, apply_targeted}
use Rattle.relr_apply.proofs.apply_class.Goals as goal

pub returns-then-largest-base : goal.returns-then-largest-base
returns-then-largest-base c = search applies

pub patch_class-requires : goal.patch_class-requires
patch_class-requires c =
    apply_targeted c.args.k c.args.table.now c.args.base c.args.start c.args.image.now c.largest.ensures (search rules) c.end.result c.if-largest-base.false c.find.ensures c.end.ensures c.in-Ok.is

pub returns-in-Err : goal.returns-in-Err
returns-in-Err c = search applies

pub returns-in-Ok : goal.returns-in-Ok
returns-in-Ok c = search applies
