use Rattle.clearing.proofs.Bounds.{within_bounds}
use Rattle.clearing.proofs.promises.within_bounds.Goals as goal

pub returns : goal.returns
returns c = within_bounds
