-- What is left to check leads to the same answer.
use Rattle.std.proofs.Common.{◌≡◌, ◌-◌, drop}
use Rattle.letter.specs.Checks.{checked_from}
use Rattle.sheet.proofs.Counted.{at, Turn}
use Rattle.letter.proofs.checking.check_lines.Given as goal

abbrev pub invariant-loop-line : goal.invariant-loop-line
invariant-loop-line l = record {
  can : (goal.iterator-loop-line).can_next l.line-iterator;
  finite : (goal.iterator-loop-line).is_finite l.line-iterator;
  turn : Turn l.lines 28 (drop 3 l.letter) l.line-iterator;
  same : checked_from l.letter 0 l.lines ≡ checked_from l.letter (at l.line-iterator) (l.lines - at l.line-iterator);
}
