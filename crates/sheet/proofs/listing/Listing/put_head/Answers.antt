use Rattle.std.proofs.Common.{ap, ◌∙◌, arith}
use Rattle.sheet.specs.Writing.{written_at}
use Rattle.sheet.proofs.Written.{wrote2, wrote4, wrote_then, length_bytes2, length_bytes4}
use Rattle.sheet.proofs.listing.Listing.put_head.Goals as goal

pub returns-clause-bytes : goal.returns-clause-bytes
returns-clause-bytes c =
    let p = c.args.self.pairs in
    let trades = c.trades-trades.result in
    let pay = c.price-pay.result.0 in
    let get = c.price-get.result.0 in
    let a = wrote2 p c.to_le_bytes.ensures c.put-end.ensures.end c.put-end.ensures.bytes in
    let b = wrote2 trades c.to_le_bytes-2.ensures c.put-end-2.ensures.end c.put-end-2.ensures.bytes in
    let d = wrote4 pay c.to_le_bytes-3.ensures c.put-end-3.ensures.end c.put-end-3.ensures.bytes in
    let e = wrote4 get c.to_le_bytes-4.ensures c.put.ensures.end c.put.ensures.bytes in
    let w =
    wrote_then a
    (wrote_then b (wrote_then d e (omega (arith, length_bytes4 pay))) (omega (arith, length_bytes2 trades)))
    (omega (arith, length_bytes2 p)) in
    w.leaves ∙ ap (λ bytes. written_at c.args.at bytes c.args.sheet.now) (rw (c.trades-trades.ensures, c.price-pay.ensures, c.price-get.ensures))
