use Rattle.listing.proofs.TableNeeds.{refusals}
use Rattle.listing.proofs.tables.put_refusal.Goals as goal

pub returns : goal.returns
returns c = search refusals
