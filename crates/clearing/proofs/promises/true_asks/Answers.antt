use Rattle.clearing.proofs.Theorems.{true_asks}
use Rattle.clearing.proofs.promises.true_asks.Goals as goal

pub returns : goal.returns
returns c = true_asks
