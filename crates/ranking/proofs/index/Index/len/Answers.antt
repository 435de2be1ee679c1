use Rattle.std.proofs.Common.{Option, refl, subst, arith}
use Rattle.ranking.proofs.AllKinds.{Tells}
use Rattle.ranking.proofs.index.Index.len.Goals as goal

pub returns-in-Some : goal.returns-in-Some
returns-in-Some g c =
    let b = g.B.OrderBook in
    let e = c.len.ensures in
    let t = subst (λ (o : Option g.row.B.Denot). Tells b.listed b.depth b.shape c.args.side c.len.result o)
    c.in-Some.ensures (e.count, e.ordered, e.shallow, e.shaped) in
    record { count = t.0; ordered = t.1; shallow = t.2; shaped = t.3 }

pub returns-in-None : goal.returns-in-None
returns-in-None g c =
    let b = g.B.OrderBook in
    let t = subst (λ (o : Option g.row.B.Denot). Tells b.listed b.depth b.shape c.args.side 0 o)
    c.in-None.ensures (refl, tt, omega arith, g.met.B.OrderBook.unshaped c.args.side) in
    record { count = t.0; ordered = t.1; shallow = t.2; shaped = t.3 }
