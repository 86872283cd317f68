use Rattle.rounding.proofs.Least.{least}
use Rattle.rounding.proofs.always_least.Goals as goal

pub returns : goal.returns
returns c = least
