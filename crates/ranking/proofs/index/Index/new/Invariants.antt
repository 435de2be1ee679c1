use Rattle.std.proofs.Common.{◌≡◌, vec_items, vec_len}
use Rattle.std.specs.List.{AllByRecursion}
use Rattle.ranking.proofs.AllKinds.{New}
use Rattle.ranking.proofs.index.Index.new.Given as goal

-- a book for each kind so far, with as many members, and empty
abbrev pub invariant-loop-kind : goal.invariant-loop-kind
invariant-loop-kind g l =
    (vec_len l.books ≡ l._kind) × AllByRecursion (New g.B.OrderBook.members g.B.OrderBook.listed l.extent.members) (vec_items l.books)
