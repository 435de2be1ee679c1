use Rattle.clearing.proofs.FirstRanks.{only_the_first}
use Rattle.clearing.proofs.promises.only_the_first.Goals as goal

pub returns : goal.returns
returns c = only_the_first
