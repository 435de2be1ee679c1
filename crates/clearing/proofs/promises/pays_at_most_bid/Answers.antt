use Rattle.clearing.proofs.Theorems.{pays_at_most_bid}
use Rattle.clearing.proofs.promises.pays_at_most_bid.Goals as goal

pub returns : goal.returns
returns c = pays_at_most_bid
