use Rattle.wrap.proofs.Words.{tests}
use Rattle.wrap.proofs.fits_signed.Goals as goal

pub returns : goal.returns
returns c = search tests
