use Rattle.clearing.proofs.Leftover.{all_but_one}
use Rattle.clearing.proofs.promises.all_but_one.Goals as goal

pub returns : goal.returns
returns c = all_but_one
