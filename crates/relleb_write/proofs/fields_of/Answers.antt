use Rattle.relleb_write.proofs.EntryNeeds.{fields}
use Rattle.relleb_write.proofs.fields_of.Goals as goal

pub returns-then-not-fits_unsigned : goal.returns-then-not-fits_unsigned
returns-then-not-fits_unsigned c = search fields

pub returns-then-not-fits_signed : goal.returns-then-not-fits_signed
returns-then-not-fits_signed c = search fields

pub returns : goal.returns
returns c = search fields
