use Rattle.clearing.proofs.Theorems.{critical_bid}
use Rattle.clearing.proofs.promises.critical_bid.Goals as goal

pub returns : goal.returns
returns c = critical_bid
