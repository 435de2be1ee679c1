use Rattle.clearing.proofs.Theorems.{lower_member_first}
use Rattle.clearing.proofs.promises.lower_member_first.Goals as goal

pub returns : goal.returns
returns c = lower_member_first
