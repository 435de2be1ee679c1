use Rattle.letter.proofs.Evenings.{first_ranks_suffice}
use Rattle.letter.proofs.promises.first_ranks_suffice.Goals as goal

pub returns : goal.returns
returns c = first_ranks_suffice
