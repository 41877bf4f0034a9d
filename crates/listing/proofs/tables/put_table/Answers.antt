use Rattle.listing.proofs.TableNeeds.{tables}
use Rattle.listing.proofs.tables.put_table.Goals as goal

pub returns-then-number-ne0 : goal.returns-then-number-ne0
returns-then-number-ne0 c = search tables

pub put_list-requires-clause-few : goal.put_list-requires-clause-few
put_list-requires-clause-few c = search tables

pub put_list-requires-clause-room : goal.put_list-requires-clause-room
put_list-requires-clause-room c = search tables

pub returns : goal.returns
returns c = search tables
