use Rattle.sheet.proofs.Checks.{Upto}
use Rattle.sheet.proofs.checking.check_kinds.Given as goal

abbrev pub invariant-loop-kind : goal.invariant-loop-kind
invariant-loop-kind l =
    (goal.iterator-loop-kind).can_next l.kind-iterator
    × (goal.iterator-loop-kind).is_finite l.kind-iterator
    × Upto l.fn.extent.kinds l.fn.extent.members l.codes l.sheet l.kind-iterator l.at
