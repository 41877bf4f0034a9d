use Rattle.relr_apply.proofs.PassNeeds.{patchings}
use Rattle.relr_apply.proofs.add_at.Goals as goal

pub returns : goal.returns
returns c = search patchings
