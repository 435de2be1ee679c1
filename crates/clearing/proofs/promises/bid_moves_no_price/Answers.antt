use Rattle.clearing.proofs.Theorems.{bid_moves_no_price}
use Rattle.clearing.proofs.promises.bid_moves_no_price.Goals as goal

pub returns : goal.returns
returns c = bid_moves_no_price
