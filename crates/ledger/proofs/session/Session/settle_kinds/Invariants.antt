use Rattle.std.proofs.Common.{◌≡◌, ◌-◌, ◌≤◌, take}
use Rattle.std.specs.Iterator.Adapters.{enumerate_source, enumerate_count, zip_first, zip_second}
use Rattle.std.specs.Slice.Iter.{iter_rest}
use Rattle.clearing.specs.Rule.{trades_in, buyers_pay, sellers_get}
use Rattle.ledger.specs.Trades.{traded, paying, earning, one_more, one_less, account_cell, berth_cell}
use Rattle.ledger.proofs.RankByRank.{Beside, left_to_trade}
use Rattle.ledger.proofs.KindByKind.{Through}
use Rattle.ledger.proofs.session.Session.settle_kinds.Given as goal

-- what is left to trade in the kind leads to the same accounts and berths as its whole
abbrev pub invariant-ranks : goal.invariant-ranks
invariant-ranks l =
    let t = trades_in l.outcome in
    let zipped = enumerate_source l.rank-iterator in
    let n = t - enumerate_count l.rank-iterator in
    let all = enumerate_source l.initial.rank-iterator in
    let bs = take t (iter_rest (zip_first all)) in
    let ss = take t (iter_rest (zip_second all)) in
    let buy = paying (buyers_pay l.outcome) in
    let sell = earning (sellers_get l.outcome) in
    let cell = berth_cell l.self.open.extent.kinds l.kind in
    record {
      beside : Beside l.initial.books l.books;
      within : enumerate_count l.rank-iterator ≤ t;
      accounts : left_to_trade buy sell account_cell n (iter_rest (zip_first zipped)) (iter_rest (zip_second zipped)) l.books.accounts.now
          ≡ traded buy sell account_cell bs ss l.initial.books.accounts.now;
      berths : left_to_trade one_more one_less cell n (iter_rest (zip_first zipped)) (iter_rest (zip_second zipped)) l.books.berths.now
          ≡ traded one_more one_less cell bs ss l.initial.books.berths.now;
    }

-- the kinds so far are settled and on the sheet
abbrev pub invariant-kinds : goal.invariant-kinds
invariant-kinds l =
    Through l.self.open.extent.kinds l.self.open.extent.members l.self.open.fund.0 l.self.index l.initial.books l.initial.sheet
    l.initial.buyers l.initial.sellers l.kind l.books l.fund l.end l.sheet
