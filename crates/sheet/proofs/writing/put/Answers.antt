use Rattle.std.proofs.Common.{refl}
use Rattle.sheet.proofs.Written.{written_part}
use Rattle.sheet.proofs.writing.put.Goals as goal

pub returns-clause-bytes : goal.returns-clause-bytes
returns-clause-bytes c = written_part c.args.at _ c.args.bytes.now _ c.args.what.now c.copy_from_slice.ensures.after refl
