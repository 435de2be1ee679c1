use Rattle.std.proofs.Common.{◌≡◌, ◌+◌, length}
use Rattle.std.specs.Iterator.Adapters.{enumerate_source, enumerate_count, take_source, take_count}
use Rattle.std.specs.Slice.Iter.{chunks_rest, chunks_size}
use Rattle.orders.specs.Lent.{held, SameLoans}
use Rattle.orders.proofs.Runs.{Leads}
use Rattle.ledger.specs.Indexed.{Indexed}
use Rattle.ledger.proofs.session.Session.take_all.Given as goal

-- the evening is the same, its index is kept, and what is left leads to the same end as the whole
abbrev pub invariant-loop-place : goal.invariant-loop-place
invariant-loop-place l =
    record {
      pieces : chunks_size (take_source (enumerate_source l.place-iterator)) ≡ 12;
      places : enumerate_count l.place-iterator + take_count (enumerate_source l.place-iterator) ≡ length l.initial.answers;
      same_open : l.self.open ≡ l.initial.self.open;
      leads : Leads l.initial.self.open.extent.kinds l.initial.self.open.extent.members (held l.initial.books) (held l.books) l.bytes
          (chunks_rest (take_source (enumerate_source l.place-iterator))) l.initial.answers l.answers (enumerate_count l.place-iterator);
      lent : SameLoans l.initial.books l.books;
      indexed : Indexed l.initial.self.open.extent.kinds l.initial.self.open.extent.members l.initial.books.entries.now l.initial.self.index
          → Indexed l.initial.self.open.extent.kinds l.initial.self.open.extent.members l.books.entries.now l.self.index;
    }
