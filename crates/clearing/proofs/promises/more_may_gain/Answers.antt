use Rattle.clearing.proofs.Theorems.{more_may_gain}
use Rattle.clearing.proofs.promises.more_may_gain.Goals as goal

pub returns : goal.returns
returns c = more_may_gain
