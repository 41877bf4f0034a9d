use Rattle.std.proofs.Common.{rules, arith}
use Rattle.relr_apply.proofs.patch_window.Goals.{then-window-j-lt2, else-window-j-lt2}
use Rattle.relr_apply.proofs.StripNeeds.{rollings, roll_done, roll_more, roll_end}
use Rattle.relr_apply.proofs.patch_window.Goals as goal

pub loop-j-init : goal.loop-j-init
loop-j-init c = search rollings

pub add_strip-requires : goal.add_strip-requires
add_strip-requires c =
    elim c.if-window-j-lt2.branch [ then-window-j-lt2 w ↦ search rollings | else-window-j-lt2 w ↦ search rollings ]

pub loop-j-preserved : goal.loop-j-preserved
loop-j-preserved c =
    let strip = c.add_strip.ensures in
    let g = c.loop-j.invariant in
    let l = c.loop-j-test.true in
    let ce = c.bytes-c.ensures in
    let m = c.requires in
    elim c.if-window-j-lt2.branch [
      | then-window-j-lt2 w ↦ roll_done m g l ce (search rules) strip (search rules) (search rules)
      | else-window-j-lt2 w ↦ roll_more m g l ce (search rules) strip (search rules) (search rules)
    ]

pub returns : goal.returns
returns c = search rollings

pub returns-after-window-j-lt2 : goal.returns-after-window-j-lt2
returns-after-window-j-lt2 c =
    let strip = c.add_strip.ensures in
    let g = c.loop-j.invariant in
    let l = c.loop-j-test.true in
    let ce = c.bytes-c.ensures in
    let m = c.requires in
    elim c.if-window-j-lt2.branch [
      | then-window-j-lt2 w ↦ roll_end m (roll_done m g l ce (search rules) strip (search rules) (search rules)) (omega arith)
      | else-window-j-lt2 w ↦ roll_end m (roll_more m g l ce (search rules) strip (search rules) (search rules)) (omega arith)
    ]
