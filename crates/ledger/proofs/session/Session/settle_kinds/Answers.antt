use Rattle.std.proofs.Common.{◌≡◌, ◌+◌, ◌-◌, ◌<◌, ◌≤◌, ◌⊎◌, length, take, sym, ◌∙◌, ap₂, inl, inr, arith, rules}
use Rattle.std.specs.Iterator.Adapters.{enumerate_source, enumerate_count, zip_first, zip_second}
use Rattle.std.specs.Slice.Iter.{iter_rest}
use Rattle.clearing.specs.Rule.{trades_in, buyers_pay, sellers_get}
use Rattle.ledger.specs.Trades.{changed, traded, paying, earning, one_more, one_less, account_cell, berth_cell}
use Rattle.ledger.proofs.RankByRank.{as_many, beside_then, rank_settled, left_to_trade, all_traded, no_more}
use Rattle.ledger.proofs.KindByKind.{Through, none_through, through_one_more}
use Rattle.ledger.proofs.session.Session.settle_kinds.Goals as goal
use Rattle.ledger.proofs.session.Session.settle_kinds.Goals.{After-next}

pub kinds-init : goal.kinds-init
kinds-init c =
    none_through c.args.self.now.open.extent.kinds c.args.self.now.open.extent.members c.args.self.now.open.fund.0 c.args.self.now.index
    c.args.books.now c.args.sheet.now c.args.buyers.now c.args.sellers.now

pub ranks-preserved : goal.ranks-preserved
ranks-preserved c =
    let o = c.publish-cleared.result.outcome in
    let was = c.ranks.invariant in
    let s = c.in-Some.ensures.steps in
    let r = enumerate_count c.ranks.rank-iterator in
    let before : r < trades_in o = omega (arith, was.within, c.if-rank-trades.false, c.trades.ensures, s.1) in
    let after : enumerate_count c.next.new.self ≡ r + 1 = s.2 in
    let b = c.in-Some.buyer.now in
    let e = c.in-Some.seller.now in
    record {
      beside = beside_then c.kinds.books c.ranks.books c.settle.new.books was.beside
          (record {
            entries = c.settle.ensures.entries;
            numbers = c.settle.ensures.numbers;
            committed = c.settle.ensures.committed;
            accounts = as_many (paying c.price.result.0) (earning c.price-in-ranks.result.0) b.member e.member
                c.ranks.books.accounts.now c.settle.new.books.accounts.now c.settle.ensures.accounts;
            berths = as_many one_more one_less (berth_cell c.args.self.now.open.extent.kinds c.kinds.kind b.member)
                (berth_cell c.args.self.now.open.extent.kinds c.kinds.kind e.member) c.ranks.books.berths.now c.settle.new.books.berths.now c.settle.ensures.berths;
            lent = c.settle.ensures.lent;
          });
      within = omega (arith, before, after);
      accounts = rw after
          (rank_settled (paying (buyers_pay o)) (earning (sellers_get o)) account_cell (trades_in o) r b e _ _ _ _ c.ranks.books.accounts.now
          c.settle.new.books.accounts.now _ before s.0.0 s.0.1
          (c.settle.ensures.accounts
          ∙ ap₂
          (λ pay get. changed (earning get) (account_cell e.member) (changed (paying pay) (account_cell b.member) c.ranks.books.accounts.now))
          c.price.ensures c.price-in-ranks.ensures)
          was.accounts);
      berths = rw after
          (rank_settled one_more one_less (berth_cell c.args.self.now.open.extent.kinds c.kinds.kind) (trades_in o) r b e _ _ _ _
          c.ranks.books.berths.now c.settle.new.books.berths.now _ before s.0.0 s.0.1 c.settle.ensures.berths was.berths);
    }

-- where nothing is left to trade, the kind is settled
kind_settled : (c : After-next) →
    left_to_trade (paying (buyers_pay c.publish-cleared.result.outcome)) (earning (sellers_get c.publish-cleared.result.outcome)) account_cell
    (trades_in c.publish-cleared.result.outcome - enumerate_count c.ranks.rank-iterator)
    (iter_rest (zip_first (enumerate_source c.ranks.rank-iterator))) (iter_rest (zip_second (enumerate_source c.ranks.rank-iterator)))
    c.ranks.books.accounts.now
    ≡ c.ranks.books.accounts.now →
    left_to_trade one_more one_less (berth_cell c.args.self.now.open.extent.kinds c.kinds.kind)
    (trades_in c.publish-cleared.result.outcome - enumerate_count c.ranks.rank-iterator)
    (iter_rest (zip_first (enumerate_source c.ranks.rank-iterator))) (iter_rest (zip_second (enumerate_source c.ranks.rank-iterator)))
    c.ranks.books.berths.now
    ≡ c.ranks.books.berths.now →
    Through c.args.self.now.open.extent.kinds c.args.self.now.open.extent.members c.args.self.now.open.fund.0 c.args.self.now.index c.args.books.now
    c.args.sheet.now c.args.buyers.now c.args.sellers.now (c.kinds.kind + 1) c.ranks.books c.saturating_add-fund.result
    c.publish-cleared.result.end c.publish-cleared.new.sheet
kind_settled c no_account no_berth =
    let o = c.publish-cleared.result.outcome in
    let t = trades_in o in
    let all = enumerate_source c.into_iter-rank-iterator.result in
    let buyers : iter_rest (zip_first all) ≡ c.publish-cleared.new.buyers = search rules in
    let sellers : iter_rest (zip_second all) ≡ c.publish-cleared.new.sellers = search rules in
    through_one_more c.args.self.now.open.extent.kinds c.args.self.now.open.extent.members c.args.self.now.open.fund.0 c.args.self.now.index
    c.args.books.now c.args.sheet.now c.args.buyers.now c.args.sellers.now
    c.kinds.kind c.kinds-test.true c.kinds.books c.kinds.fund c.kinds.end c.kinds.sheet c.kinds.buyers c.kinds.sellers
    c.kinds.invariant c.kinds.auto.buyers c.kinds.auto.sellers c.kinds.auto.sheet o c.publish-cleared.new.buyers
    c.publish-cleared.new.sellers c.ranks.books c.takings.result.0
    c.saturating_add-fund.result c.publish-cleared.result.end c.publish-cleared.new.sheet c.publish-cleared.ensures.cleared
    c.publish-cleared.ensures.sheet c.ranks.invariant.beside
    (sym no_account ∙ c.ranks.invariant.accounts
    ∙ ap₂ (λ bs ss. traded (paying (buyers_pay o)) (earning (sellers_get o)) account_cell (take t bs) (take t ss) c.kinds.books.accounts.now) buyers sellers)
    (sym no_berth ∙ c.ranks.invariant.berths
    ∙ ap₂ (λ bs ss. traded one_more one_less (berth_cell c.args.self.now.open.extent.kinds c.kinds.kind) (take t bs) (take t ss) c.kinds.books.berths.now) buyers sellers)
    c.takings.ensures c.saturating_add-fund.ensures

pub kinds-preserved-then-rank-trades : goal.kinds-preserved-then-rank-trades
kinds-preserved-then-rank-trades c =
    let t = trades_in c.publish-cleared.result.outcome in
    let r = enumerate_count c.ranks.rank-iterator in
    let done : t ≤ r = omega (arith, c.if-rank-trades.true, c.trades.ensures, c.in-Some.ensures.steps.1) in
    kind_settled (goal.at.kinds-preserved-then-rank-trades c).After-next
    (all_traded _ _ account_cell t r _ _ _ done)
    (all_traded one_more one_less (berth_cell c.args.self.now.open.extent.kinds c.kinds.kind) t r _ _ _ done)

pub kinds-preserved : goal.kinds-preserved
kinds-preserved c =
    let n = trades_in c.publish-cleared.result.outcome - enumerate_count c.ranks.rank-iterator in
    let zipped = enumerate_source c.ranks.rank-iterator in
    let end : (length (iter_rest (zip_first zipped)) ≡ 0) ⊎ (length (iter_rest (zip_second zipped)) ≡ 0) =
    elim c.in-None.ensures.steps.0 [ inl x ↦ inl x.1.0 | inr x ↦ inr x.1.0 ] in
    kind_settled (goal.at.kinds-preserved c).After-next
    (no_more _ _ account_cell n _ _ _ end)
    (no_more one_more one_less (berth_cell c.args.self.now.open.extent.kinds c.kinds.kind) n _ _ _ end)
