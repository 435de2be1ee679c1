use Rattle.std.proofs.Common.{◌≡◌, ◌-◌}
use Rattle.letter.specs.Telling.{kinds_there}
use Rattle.letter.proofs.writing.Published.check_sheet.Given as goal

abbrev pub invariant-loop-kind : goal.invariant-loop-kind
invariant-loop-kind l = kinds_there l.self.extent.kinds l.self.sheet.now ≡ kinds_there (l.self.extent.kinds - l._kind) l.rest
