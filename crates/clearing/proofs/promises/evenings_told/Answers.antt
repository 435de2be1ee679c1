use Rattle.clearing.proofs.Theorems.{evenings_told}
use Rattle.clearing.proofs.promises.evenings_told.Goals as goal

pub returns : goal.returns
returns c = evenings_told
