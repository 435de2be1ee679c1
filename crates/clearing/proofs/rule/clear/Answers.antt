use Rattle.std.proofs.Common.{◌≡◌, sym, subst, rules}
use Rattle.clearing.specs.Rule.{cents_of, cleared}
use Rattle.clearing.specs.Statements.{PromisedTo}
use Rattle.clearing.proofs.Theorems.{promised_to}
use Rattle.clearing.proofs.rule.clear.Goals as goal

pub returns-clause-promised : goal.returns-clause-promised
returns-clause-promised c =
    let buyers = c.args.buyers.now in
    let sellers = c.args.sellers.now in
    let e : c.settle.result ≡ cleared (cents_of buyers) (cents_of sellers) = search rules in
    subst (PromisedTo buyers sellers) (sym e) (promised_to buyers sellers)
