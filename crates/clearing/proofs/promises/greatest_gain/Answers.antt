use Rattle.clearing.proofs.Matchings.{greatest_gain}
use Rattle.clearing.proofs.promises.greatest_gain.Goals as goal

pub returns : goal.returns
returns c = greatest_gain
