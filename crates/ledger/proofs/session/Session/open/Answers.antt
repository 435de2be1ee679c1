use Rattle.std.proofs.Common.{◌*◌, drop, ap, arith}
use Rattle.orders.specs.declared.extent.Extent.{Extent}
use Rattle.ledger.proofs.Empty.{indexed_empty}
use Rattle.ledger.proofs.session.Session.open.Goals as goal

pub returns-clause-indexed : goal.returns-clause-indexed
returns-clause-indexed c =
    let K = c.args.extent.kinds in
    let M = c.args.extent.members in
    let e = c.in_ok-open.ensures in
    indexed_empty K M c.open.new.books.entries.now (drop (K * M) c.args.books.now.entries.now) c.in_ok-index.index
    (omega (arith, ap (λ (x : Extent). x.members) e.opened.0, c.in_ok-open.open.members_least))
    e.entries c.in_ok-index.ensures.0 c.in_ok-index.ensures.1
