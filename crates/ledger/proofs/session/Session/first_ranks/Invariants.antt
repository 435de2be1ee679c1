use Rattle.std.proofs.Common.{◌≡◌}
use lib.Seq.{paste}
use Rattle.ranking.specs.Indexes.{kind_list}
use Rattle.ledger.proofs.session.Session.first_ranks.Given as goal

abbrev pub invariant-loop-rank : goal.invariant-loop-rank
invariant-loop-rank l = l.place-items ≡ paste l.initial.place-items 0 (kind_list l.kind l.side l.self.index) l.rank
