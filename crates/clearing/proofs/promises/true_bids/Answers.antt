use Rattle.clearing.proofs.Theorems.{true_bids}
use Rattle.clearing.proofs.promises.true_bids.Goals as goal

pub returns : goal.returns
returns c = true_bids
