use Rattle.ledger.proofs.Relisting.{left}
use Rattle.ledger.proofs.indexing.leave.Goals as goal

pub returns-in-Some-clause-row : goal.returns-in-Some-clause-row
returns-in-Some-clause-row c =
    left c.args.index.now c.take_out-there.new.self c.args.kind c.args.member c.args.entry
    c.in-Some.side c.in-Some._cents c.in-Some.ensures c.take_out-there.ensures.this
    c.take_out-there.ensures.other (c.take_out-there.ensures.size c.args.kind)
