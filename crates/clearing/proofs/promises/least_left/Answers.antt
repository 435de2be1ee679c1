use Rattle.clearing.proofs.Leftover.{least_left}
use Rattle.clearing.proofs.promises.least_left.Goals as goal

pub returns : goal.returns
returns c = least_left
