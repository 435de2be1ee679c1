use Rattle.std.proofs.Common.{◌≡◌, ◌+◌, ◌*◌, ap, ◌∙◌, ap₂, rules}
use Rattle.ledger.specs.Trades.{changed, paying, earning, one_more, one_less, berth_cell}
use Rattle.ledger.proofs.Cells.{changed_by}
use Rattle.ledger.proofs.settling.settle.Goals as goal

pub returns-clause-accounts : goal.returns-clause-accounts
returns-clause-accounts c =
    let pay = paying c.args.trade.paid.0 in
    let get = earning c.args.trade.got.0 in
    let buyer = c.from-buyer.result in
    let seller = c.from-seller.result in
    changed_by _ get seller _ _ c.change-2.ensures (λ x y r. search rules)
    ∙ ap (changed get seller) (changed_by _ pay buyer _ _ c.change.ensures (λ x y r. search rules))
    ∙ ap₂ (λ s b. changed get s (changed pay b c.args.books.now.accounts.now)) c.from-seller.ensures c.from-buyer.ensures

pub returns-clause-berths : goal.returns-clause-berths
returns-clause-berths c =
    let buyer = c.from-buyer.result * c.from-row.result + c.from-kind.result in
    let seller = c.from-seller.result * c.from-row.result + c.from-kind.result in
    let buyers : buyer ≡ berth_cell c.args.kinds c.args.trade.kind c.args.trade.buyer =
    ap₂ ◌+◌ (ap₂ ◌*◌ c.from-buyer.ensures c.from-row.ensures) c.from-kind.ensures in
    let sellers : seller ≡ berth_cell c.args.kinds c.args.trade.kind c.args.trade.seller =
    ap₂ ◌+◌ (ap₂ ◌*◌ c.from-seller.ensures c.from-row.ensures) c.from-kind.ensures in
    changed_by _ one_less seller _ _ c.change-4.ensures (λ x y r. search rules)
    ∙ ap (changed one_less seller) (changed_by _ one_more buyer _ _ c.change-3.ensures (λ x y r. search rules))
    ∙ ap₂ (λ s b. changed one_less s (changed one_more b c.args.books.now.berths.now)) sellers buyers
