use Rattle.clearing.proofs.Theorems.{tie_rule}
use Rattle.clearing.proofs.promises.tie_rule.Goals as goal

pub returns : goal.returns
returns c = tie_rule
