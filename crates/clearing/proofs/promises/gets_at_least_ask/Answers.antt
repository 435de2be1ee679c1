use Rattle.clearing.proofs.Theorems.{gets_at_least_ask}
use Rattle.clearing.proofs.promises.gets_at_least_ask.Goals as goal

pub returns : goal.returns
returns c = gets_at_least_ask
