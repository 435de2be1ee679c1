use Rattle.std.proofs.Common.{rules}
use Rattle.sheet.specs.Words.{bytes4}
use Rattle.letter.proofs.bytes.entry_bytes.Goals as goal

pub returns : goal.returns
unfolding bytes4
returns c = search rules
