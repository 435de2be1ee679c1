use Rattle.clearing.proofs.Theorems.{lower_ask_first}
use Rattle.clearing.proofs.promises.lower_ask_first.Goals as goal

pub returns : goal.returns
returns c = lower_ask_first
