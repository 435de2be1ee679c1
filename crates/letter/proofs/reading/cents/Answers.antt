use Rattle.std.proofs.Common.{rules}
use Rattle.letter.specs.Words.{number_at}
use Rattle.letter.proofs.reading.cents.Goals as goal

pub returns : goal.returns
unfolding number_at
returns c = search rules
