use Rattle.std.proofs.Common.{rules}
use Rattle.sheet.specs.Words.{bytes4}
use Rattle.letter.proofs.bytes.trade_bytes.Goals as goal

pub returns-in-Some : goal.returns-in-Some
unfolding bytes4
returns-in-Some c = search rules

pub returns-in-None : goal.returns-in-None
unfolding bytes4
returns-in-None c = search rules
