use Rattle.wrap.proofs.Words.{tests}
use Rattle.wrap.proofs.fits_unsigned.Goals as goal

pub returns-then-width-lt64 : goal.returns-then-width-lt64
returns-then-width-lt64 c = search tests

pub returns : goal.returns
returns c = search tests
