use Rattle.clearing.proofs.Leftover.{no_two_left}
use Rattle.clearing.proofs.promises.no_two_left.Goals as goal

pub returns : goal.returns
returns c = no_two_left
