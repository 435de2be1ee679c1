use Rattle.clearing.proofs.AsMany.{as_many_buy}
use Rattle.clearing.proofs.promises.as_many_buy.Goals as goal

pub returns : goal.returns
returns c = as_many_buy
