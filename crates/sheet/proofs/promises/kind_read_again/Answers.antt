use Rattle.sheet.proofs.Sections.{read_back}
use Rattle.sheet.proofs.promises.kind_read_again.Goals as goal

pub returns : goal.returns
returns c = read_back
