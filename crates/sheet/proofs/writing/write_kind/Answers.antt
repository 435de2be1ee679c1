use Rattle.std.proofs.Common.{◌≡◌, ◌+◌, ◌≤◌, true, length, Some, sym, ap, ◌∙◌, arith}
use Rattle.std.proofs.lemmas.Bool.{cond-true}
use Rattle.sheet.specs.Writing.{writable, kind_length}
use Rattle.sheet.proofs.Written.{room_there, wrote_head, wrote_counted, wrote_kind}
use Rattle.sheet.proofs.writing.write_kind.Goals as goal

pub returns : goal.returns
returns c =
    let l = c.args.listing in
    let buyers = l.buyers.now in
    let sellers = l.sellers.now in
    let old = c.args.sheet.now in
    let test : writable (length old) c.args.at l.pairs l.outcome (length buyers) (length sellers) ≡ true =
    sym c.is_writable.ensures ∙ c.if-not-is_writable.false in
    let room : c.args.at + kind_length (length buyers) (length sellers) ≤ length old =
    room_there (length old) c.args.at l.pairs l.outcome (length buyers) (length sellers) test in
    let w =
    wrote_kind l.pairs l.outcome buyers sellers
    (wrote_head l.pairs l.outcome c.put_head-end.ensures.end c.put_head-end.ensures.bytes)
    (wrote_counted buyers c.put_listed-end.ensures.end c.put_listed-end.ensures.bytes)
    (wrote_counted sellers c.put_listed.ensures.end c.put_listed.ensures.bytes) (omega arith)
    (omega (arith, c.put_head-end.ensures.end)) in
    record { end = ap Some w.ends ∙ sym (cond-true _ _ _ test); bytes = w.leaves ∙ sym (cond-true _ _ _ test) }
