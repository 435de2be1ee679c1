use Rattle.clearing.proofs.Theorems.{ranks}
use Rattle.clearing.proofs.promises.ranks.Goals as goal

pub returns : goal.returns
returns c = ranks
