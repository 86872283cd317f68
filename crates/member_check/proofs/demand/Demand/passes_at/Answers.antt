use Rattle.member_check.proofs.Falling.{passes_below, passes_unloaded}
use Rattle.member_check.proofs.demand.Demand.passes_at.Goals as goal

pub returns-clause-below : goal.returns-clause-below
returns-clause-below g c = passes_below

pub returns-clause-unloaded : goal.returns-clause-unloaded
returns-clause-unloaded g c = passes_unloaded
