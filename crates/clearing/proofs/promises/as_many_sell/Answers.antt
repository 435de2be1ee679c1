use Rattle.clearing.proofs.AsMany.{as_many_sell}
use Rattle.clearing.proofs.promises.as_many_sell.Goals as goal

pub returns : goal.returns
returns c = as_many_sell
