use Rattle.relr_apply.proofs.StripNeeds.{Filling}
use Rattle.relr_apply.proofs.fill_strips.Given as goal

abbrev pub invariant-loop-e : goal.invariant-loop-e
invariant-loop-e l = Filling l.k l.base l.strips l.e
