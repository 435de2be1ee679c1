use Rattle.std.proofs.Common.{[], ◌∷◌, ap, arith}
use Rattle.letter.specs.Lines.{entry_bytes, trade_bytes, pair_bytes, tie_byte}
use Rattle.letter.proofs.Putting.{wrote, wrote_line}
use Rattle.letter.proofs.bytes.put_line.Goals as goal

pub returns : goal.returns
returns c =
    let l = c.args.line.now in
    wrote_line l c.requires (omega arith) (omega arith) (omega arith)
    (wrote (entry_bytes l) c.entry_bytes.ensures c.put-end.ensures.end c.put-end.ensures.bytes)
    (wrote (trade_bytes l.price) c.trade_bytes.ensures c.put-end-2.ensures.end c.put-end-2.ensures.bytes)
    (wrote (pair_bytes l.last) c.pair_bytes.ensures c.put-end-3.ensures.end c.put-end-3.ensures.bytes)
    (wrote (pair_bytes l.next) c.pair_bytes-2.ensures c.put-end-4.ensures.end c.put-end-4.ensures.bytes)
    (wrote (tie_byte l.tie ∷ []) (ap (λ n. n ∷ []) c.from.ensures) c.put-end-5.ensures.end c.put-end-5.ensures.bytes)
