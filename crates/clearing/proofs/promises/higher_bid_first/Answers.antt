use Rattle.clearing.proofs.Theorems.{higher_bid_first}
use Rattle.clearing.proofs.promises.higher_bid_first.Goals as goal

pub returns : goal.returns
returns c = higher_bid_first
