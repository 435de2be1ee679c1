use Rattle.clearing.proofs.Matchings.{most_at_one_price}
use Rattle.clearing.proofs.promises.most_at_one_price.Goals as goal

pub returns : goal.returns
returns c = most_at_one_price
