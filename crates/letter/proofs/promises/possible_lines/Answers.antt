use Rattle.letter.proofs.SomeRow.{possible_lines}
use Rattle.letter.proofs.promises.possible_lines.Goals as goal

pub returns : goal.returns
returns c = possible_lines
