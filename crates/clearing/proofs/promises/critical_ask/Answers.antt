use Rattle.clearing.proofs.Theorems.{critical_ask}
use Rattle.clearing.proofs.promises.critical_ask.Goals as goal

pub returns : goal.returns
returns c = critical_ask
