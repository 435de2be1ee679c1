use Rattle.sheet.proofs.Extents.{kind_writable}
use Rattle.sheet.proofs.promises.always_writable.Goals as goal

pub returns : goal.returns
returns c = kind_writable
