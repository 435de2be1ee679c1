use Rattle.clearing.proofs.Leftover.{pairs_first}
use Rattle.clearing.proofs.promises.pairs_first.Goals as goal

pub returns : goal.returns
returns c = pairs_first
