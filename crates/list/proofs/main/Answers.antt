use Rattle.std.proofs.Common.{arith, ◌≤◌, length}
use Rattle.listing.specs.Text.{text_room}
use Rattle.listing.proofs.ListLaws.{lists_within, lists_part}
use Rattle.list.proofs.main.Goals as goal

-- the text has room for every listing
pub slice_bounds-text-end : goal.slice_bounds-text-end
slice_bounds-text-end c =
    let room : text_room ≤ length c.list-answer.new.text = omega arith in
    lists_within c.list-answer.ensures room

pub slice_bounds-write_all-end : goal.slice_bounds-write_all-end
slice_bounds-write_all-end c =
    let room : text_room ≤ length c.list-answer.new.text = omega arith in
    lists_part c.list-answer.ensures room
