use Rattle.clearing.proofs.Leftover.{fund_never_pays}
use Rattle.clearing.proofs.promises.fund_never_pays.Goals as goal

pub returns : goal.returns
returns c = fund_never_pays
