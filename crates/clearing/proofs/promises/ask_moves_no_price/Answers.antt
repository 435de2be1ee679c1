use Rattle.clearing.proofs.Theorems.{ask_moves_no_price}
use Rattle.clearing.proofs.promises.ask_moves_no_price.Goals as goal

pub returns : goal.returns
returns c = ask_moves_no_price
