use Rattle.sheet.proofs.Sections.{first_listable}
use Rattle.sheet.proofs.promises.first_listable.Goals as goal

pub returns : goal.returns
returns c = first_listable
