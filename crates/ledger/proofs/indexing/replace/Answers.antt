use Rattle.std.proofs.Common.{List, set, subst}
use Rattle.std.proofs.lemmas.List.{set-set, get_or-set_same, length-set}
use Rattle.orders.specs.declared.entry.Entry.{Entry}
use Rattle.orders.specs.declared.entry.Entry.TheVariants.{Nothing}
use Rattle.ledger.specs.Indexed.{Lists}
use Rattle.ledger.proofs.indexing.replace.Goals as goal

pub returns-clause-row : goal.returns-clause-row
returns-clause-row c row l h w =
    let m = c.args.order.member.0 in
    subst (λ (r : List Entry). Lists r c.args.order.kind.0 c.join.new.index) (set-set row m Nothing c.args.order.entry)
    (c.join.ensures.row (set row m Nothing) (simp length-set l) (get_or-set_same row m Nothing Nothing l)
    (c.leave.ensures.row row l h w))
