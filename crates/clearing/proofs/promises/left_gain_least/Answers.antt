use Rattle.clearing.proofs.Leftover.{left_gain_least}
use Rattle.clearing.proofs.promises.left_gain_least.Goals as goal

pub returns : goal.returns
returns c = left_gain_least
