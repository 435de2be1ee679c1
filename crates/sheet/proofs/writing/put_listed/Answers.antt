use Rattle.std.proofs.Common.{length, arith}
use Rattle.sheet.proofs.Written.{wrote2, wrote_row, wrote_then, length_bytes2}
use Rattle.sheet.proofs.writing.put_listed.Goals as goal

pub returns-clause-bytes : goal.returns-clause-bytes
returns-clause-bytes c =
    let row = c.args.row.now in
    let w =
    wrote_then (wrote2 (length row) c.to_le_bytes.ensures c.put-end.ensures.end c.put-end.ensures.bytes)
    (wrote_row row c.put_row.ensures.end c.put_row.ensures.bytes)
    (omega (arith, c.requires.room, length_bytes2 (length row))) in
    w.leaves
