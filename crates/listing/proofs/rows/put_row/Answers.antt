use Rattle.std.proofs.Common.{rules}
use Rattle.listing.proofs.RowNeeds.{row_put}
use Rattle.listing.proofs.rows.put_row.Goals as goal

pub returns : goal.returns
returns c =
    row_put _ _ _ _ _ _ (search rules) (search rules) (search rules) (search rules) (search rules) c.has_type-typed.ensures c.has_addend-signed.ensures
    c.put_number.ensures c.put_field.ensures c.put_field-2.ensures c.put_field-3.ensures c.put_field-4.ensures c.put_byte.ensures
