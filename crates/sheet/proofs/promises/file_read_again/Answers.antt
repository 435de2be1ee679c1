use Rattle.sheet.proofs.EntryFiles.{file_back}
use Rattle.sheet.proofs.promises.file_read_again.Goals as goal

pub returns : goal.returns
returns c = file_back
