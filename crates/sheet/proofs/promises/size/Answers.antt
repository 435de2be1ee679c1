use Rattle.sheet.proofs.Extents.{length_sheet_of}
use Rattle.sheet.proofs.promises.size.Goals as goal

pub returns : goal.returns
returns c = length_sheet_of
