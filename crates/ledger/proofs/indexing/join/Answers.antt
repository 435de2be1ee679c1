use Rattle.ledger.proofs.Relisting.{joined}
use Rattle.ledger.proofs.indexing.join.Goals as goal

pub returns-in-Some-clause-row : goal.returns-in-Some-clause-row
returns-in-Some-clause-row c =
    joined c.args.index.now c.put-free.new.self c.args.kind c.args.member c.args.entry
    c.in-Some.side c.in-Some.cents c.in-Some.ensures c.put-free.result c.put-free.ensures.answer
    c.put-free.ensures.this c.put-free.ensures.other (c.put-free.ensures.size c.args.kind)
