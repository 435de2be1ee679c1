-- The lines that are left, written behind those that are there, give what all lines give.
use Rattle.std.proofs.Common.{◌-◌, ◌≤◌}
use Rattle.letter.specs.Telling.{lines_told}
use Rattle.sheet.proofs.Counted.{at, Turn}
use Rattle.letter.proofs.Putting.{Leads}
use Rattle.letter.proofs.writing.Published.write_lines.Given as goal

abbrev pub invariant-loop-kind : goal.invariant-loop-kind
invariant-loop-kind l = record {
  can : (goal.iterator-loop-kind).can_next l.kind-iterator;
  finite : (goal.iterator-loop-kind).is_finite l.kind-iterator;
  turn : Turn l.self.extent.kinds l.self.extent.members l.self.entries.now l.kind-iterator;
  leads : Leads (lines_told l.self.extent.members l.self.entries.now l.member l.self.extent.kinds 0 l.self.sheet.now)
      (lines_told l.self.extent.members l.self.entries.now l.member (l.self.extent.kinds - at l.kind-iterator) (at l.kind-iterator) l.rest) l.lines l.initial.letter l.letter;
  few : l.lines ≤ at l.kind-iterator;
}
