use Rattle.listing.proofs.TableNeeds.{texts}
use Rattle.listing.proofs.tables.put_text.Goals as goal

pub returns-in_default : goal.returns-in_default
returns-in_default c = search texts

pub slice_bounds-table-count : goal.slice_bounds-table-count
slice_bounds-table-count c = search texts

pub slice_bounds-table-start : goal.slice_bounds-table-start
slice_bounds-table-start c = search texts

pub returns-then-table-gt-TABLE_LIMIT : goal.returns-then-table-gt-TABLE_LIMIT
returns-then-table-gt-TABLE_LIMIT c = search texts

pub returns : goal.returns
returns c = search texts
