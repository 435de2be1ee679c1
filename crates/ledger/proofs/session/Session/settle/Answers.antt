use Rattle.std.proofs.Common.{◌≡◌, false, length, ap}
use Rattle.orders.specs.declared.evening.Closed.{Closed}
use Rattle.orders.specs.Lent.{held, lacking}
use Rattle.ledger.specs.Refusing.{no_room}
use Rattle.ledger.specs.Underway.{Closable}
use Rattle.ledger.proofs.Ended.{closable, closed_as, none_short}
use Rattle.ledger.proofs.Evenings.{fair}
use Rattle.ledger.proofs.session.Session.settle.Goals as goal

pub returns-clause-closed : goal.returns-clause-closed
returns-clause-closed c u =
    let K = c.args.self.open.extent.kinds in
    let M = c.args.self.open.extent.members in
    let fund = c.args.self.open.fund.0 in
    let h = held c.args.books.now in
    let space = c.args.space.now in
    let room : no_room K M (length space.sheet.now) (length space.buyers.now) (length space.sellers.now) ≡ false =
    (none_short (lacking K M h) _ c.in_default.ensures).1 in
    let whole : Closable K M fund h c.args.self.index space.sheet.now space.buyers.now space.sellers.now =
    closable K M fund h c.args.self.index space.sheet.now space.buyers.now space.sellers.now room u in
    let s = c.settle_kinds-settled.ensures in
    let e = c.close_books.ensures in (
      closed_as K M fund h (held c.settle_kinds-settled.new.books) (held c.close_books.new.books) c.settle_kinds-settled.result.fund.0 c.close_books.result.fund.0
          (s.settled whole).0 s.entries s.numbers s.committed e.accounts e.berths e.entries e.committed e.numbers
          (ap (λ (x : Closed). x.fund.0) e.closed),
      (s.settled whole).1,
      fair K M fund h u.in_bounds,
    )
