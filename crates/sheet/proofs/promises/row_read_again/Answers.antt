use Rattle.sheet.proofs.Sections.{listed_row}
use Rattle.sheet.proofs.promises.row_read_again.Goals as goal

pub returns : goal.returns
returns c = listed_row
