-- Evenings of one kind, with their outcomes. Bids and asks are in cents, the buyers are the first members and the sellers
-- those after them; of the outcome the table has pairs, trades, what each buyer pays, what each seller gets and what the
-- fund gets, in half cents.
use Rattle.std.specs.Prelude.{ℕ, List, [], ◌∷◌, ◌++◌, map}
use Rattle.orders.specs.declared.money.Cents.{Cents}
use Rattle.orders.specs.declared.entry.Entry.{Entry}
use Rattle.orders.specs.declared.entry.Entry.TheVariants.{Bid, Ask}
use Rattle.ranking.specs.Ranks.{own}
use Rattle.clearing.specs.Rule.{trades_in, buyers_pay, sellers_get, fund_gets}
use Rattle.clearing.specs.Kind.{pairs_in, outcome}

pub record Evening : Type 0 where
  pub bid : List ℕ
  pub ask : List ℕ
  pub pairs : ℕ
  pub trades : ℕ
  pub pay : ℕ
  pub get : ℕ
  pub fund : ℕ

abbrev pub in_cents : ℕ → Cents
in_cents n = record { 0 = n }

abbrev pub row_with : List ℕ → List ℕ → List Entry
row_with bids asks = map (λ n. Bid (in_cents n)) bids ++ map (λ n. Ask (in_cents n)) asks

-- what the rule makes of the evening's bids and asks
abbrev pub by_rule : Evening → Evening
by_rule e =
    let row : List Entry = row_with e.bid e.ask in
    record {
      bid = e.bid;
      ask = e.ask;
      pairs = pairs_in own row;
      trades = trades_in (outcome own row);
      pay = buyers_pay (outcome own row);
      get = sellers_get (outcome own row);
      fund = fund_gets (outcome own row);
    }

abbrev pub evenings : List Evening
evenings =
    -- A: all three pairs at the price from the next bid and ask
    record { bid = 10 ∷ 8 ∷ 6 ∷ 3 ∷ []; ask = 2 ∷ 4 ∷ 5 ∷ 9 ∷ []; pairs = 3; trades = 3; pay = 12; get = 12; fund = 0 }
    -- B: a price of 6.50
    ∷ record { bid = 9 ∷ 7 ∷ 5 ∷ []; ask = 4 ∷ 5 ∷ 8 ∷ []; pairs = 2; trades = 2; pay = 13; get = 13; fund = 0 }
    -- C: one pair, which has no next and is left out
    ∷ record { bid = 5 ∷ []; ask = 5 ∷ []; pairs = 1; trades = 0; pay = 0; get = 0; fund = 0 }
    -- D: no fourth buyer or seller, so the third pair is left out
    ∷ record { bid = 9 ∷ 9 ∷ 9 ∷ []; ask = 1 ∷ 1 ∷ 1 ∷ []; pairs = 3; trades = 2; pay = 18; get = 2; fund = 32 }
    -- E: one pair at the price from the next
    ∷ record { bid = 7 ∷ 4 ∷ []; ask = 5 ∷ 6 ∷ []; pairs = 1; trades = 1; pay = 10; get = 10; fund = 0 }
    -- F: no buyer
    ∷ record { bid = []; ask = 3 ∷ []; pairs = 0; trades = 0; pay = 0; get = 0; fund = 0 }
    -- H: the price from 3 and 9 would be 6, below the last pair's ask of 8
    ∷ record { bid = 8 ∷ 8 ∷ 3 ∷ []; ask = 2 ∷ 8 ∷ 9 ∷ []; pairs = 2; trades = 1; pay = 16; get = 16; fund = 0 }
    -- one pair by ranks, though 10 with 9 and 4 with 3 would be two that gain
    ∷ record { bid = 10 ∷ 4 ∷ []; ask = 3 ∷ 9 ∷ []; pairs = 1; trades = 1; pay = 13; get = 13; fund = 0 }
    ∷ []
