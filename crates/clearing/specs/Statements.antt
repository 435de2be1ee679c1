-- What the rule promises, for one kind, over any row of entries: the statements, and nothing else. Bids and asks are in
-- cents and prices in half cents, so a number of cents is doubled before it is compared with a price. The tie number of
-- a member is a parameter, of which no two members of the row have the same.
use Rattle.std.specs.Prelude.{◌≡◌, ℕ, ◌+◌, ◌*◌, ◌<◌, ◌≤◌, true, false, ◌⊎◌, List, map, length, take, Some, sum, count_by, ◌≢◌, slice_index_or}
use Rattle.std.specs.List.{AllByRecursion}
use Rattle.orders.specs.declared.money.Cents.{Cents}
use Rattle.orders.specs.declared.entry.Entry.{Entry}
use Rattle.orders.specs.declared.entry.Entry.TheVariants.{Nothing, Bid, Ask}
use Rattle.ranking.specs.declared.ranked.Side.{Side}
use Rattle.ranking.specs.declared.ranked.Side.TheVariants.{Buyers, Sellers}
use Rattle.ranking.specs.declared.ranked.Ranked.{Ranked}
use Rattle.ranking.specs.Ranks.{own, ranked}
use Rattle.clearing.specs.declared.outcome.Outcome.{Outcome}
use Rattle.clearing.specs.Rule.{at_rank, pairs, cleared, trades_in, buyers_pay, sellers_get, fund_gets}
use Rattle.clearing.specs.Kind.{Apart, bids, asks, pairs_in, outcome, number, how_many, standing, rank, buys, sells, pays, gets, members, buys_with, pays_with, sells_with, gets_with}
use Rattle.clearing.specs.Matching.{Match, Matching, Gains, AtPrice, all_bids, all_asks}
use Rattle.clearing.specs.Evenings.{evenings, by_rule}

-- 1. RANKS. The place of a member in its side's ranked list is how many come before it; no two have one rank; each rank
-- below the count has its member.
pub record RanksOf (s : Side) (tie : ℕ → ℕ) (row : List Entry) : Type 0 where
  pub counted : length (ranked s tie row) ≡ how_many s row
  pub below : (i : ℕ) (c : Cents) → number s row i ≡ Some c → rank s tie row (standing i c) < how_many s row
  pub placed : (i : ℕ) (c : Cents) → number s row i ≡ Some c →
      (none : Ranked) → slice_index_or (ranked s tie row) (rank s tie row (standing i c)) none ≡ standing i c
  pub one_each : (i j : ℕ) (c d : Cents) → number s row i ≡ Some c → number s row j ≡ Some d →
      rank s tie row (standing i c) ≡ rank s tie row (standing j d) → i ≡ j
  pub filled : (r : ℕ) → r < how_many s row →
      (i : ℕ) × (c : Cents) × (number s row i ≡ Some c) × (rank s tie row (standing i c) ≡ r)

abbrev pub Ranks : Type 0
Ranks = (s : Side) (tie : ℕ → ℕ) (row : List Entry) → Apart tie row → RanksOf s tie row

-- A higher bid has the lower rank, and so has a lower ask.
abbrev pub HigherBidFirst : Type 0
HigherBidFirst =
    (tie : ℕ → ℕ) (row : List Entry) → Apart tie row → (i j : ℕ) (c d : Cents) →
    slice_index_or row i Nothing ≡ Bid c → slice_index_or row j Nothing ≡ Bid d → d.0 < c.0 →
    rank Buyers tie row (standing i c) < rank Buyers tie row (standing j d)

abbrev pub LowerAskFirst : Type 0
LowerAskFirst =
    (tie : ℕ → ℕ) (row : List Entry) → Apart tie row → (i j : ℕ) (c d : Cents) →
    slice_index_or row i Nothing ≡ Ask c → slice_index_or row j Nothing ≡ Ask d → c.0 < d.0 →
    rank Sellers tie row (standing i c) < rank Sellers tie row (standing j d)

-- THE TIE RULE: of two with one number, the lower tie number has the lower rank.
abbrev pub TieRule : Type 0
TieRule =
    (s : Side) (tie : ℕ → ℕ) (row : List Entry) → Apart tie row → (i j : ℕ) (c : Cents) →
    number s row i ≡ Some c → number s row j ≡ Some c → tie i < tie j →
    rank s tie row (standing i c) < rank s tie row (standing j c)

-- Where the tie number is the member's own, as it is today, the lower member has the lower rank.
abbrev pub LowerMemberFirst : Type 0
LowerMemberFirst =
    (s : Side) (row : List Entry) (i j : ℕ) (c : Cents) → number s row i ≡ Some c → number s row j ≡ Some c → i < j →
    rank s own row (standing i c) < rank s own row (standing j c)

-- 2. PAIRS COME FIRST, WITHOUT A GAP: a rank is below the number of pairs if and only if it has a buyer and a seller and
-- the ask is at most the bid.
pub record Pair (tie : ℕ → ℕ) (row : List Entry) (r : ℕ) : Type 0 where
  pub buyer : r < how_many Buyers row
  pub seller : r < how_many Sellers row
  pub meet : at_rank (asks tie row) r ≤ at_rank (bids tie row) r

abbrev pub PairsFirst : Type 0
PairsFirst =
    (tie : ℕ → ℕ) (row : List Entry) (r : ℕ) →
    (r < pairs_in tie row → Pair tie row r) × (Pair tie row r → r < pairs_in tie row)

-- 3. TRUE NUMBERS. Others fixed, a buyer whose true worth is v, and any other bid w: if with w it buys, then with v it
-- buys at the same price, or does not buy and would not have gained by w's price. And buying with v it never loses.
pub record TrueBid (tie : ℕ → ℕ) (row : List Entry) (i : ℕ) (v w : Cents) : Type 0 where
  pub best : buys_with tie row i w ≡ true →
      ((buys_with tie row i v ≡ true) × (pays_with tie row i v ≡ pays_with tie row i w))
      ⊎ ((buys_with tie row i v ≡ false) × (2 * v.0 ≤ pays_with tie row i w))
  pub no_loss : buys_with tie row i v ≡ true → pays_with tie row i v ≤ 2 * v.0

abbrev pub TrueBids : Type 0
TrueBids =
    (tie : ℕ → ℕ) (row : List Entry) → Apart tie row → (i : ℕ) → i < length row → (v w : Cents) → TrueBid tie row i v w

-- And a seller whose true cost is v, and any other ask w: if with w it sells, then with v it sells at the same price, or
-- does not sell and would not have gained by w's price. And selling with v it never loses.
pub record TrueAsk (tie : ℕ → ℕ) (row : List Entry) (i : ℕ) (v w : Cents) : Type 0 where
  pub best : sells_with tie row i w ≡ true →
      ((sells_with tie row i v ≡ true) × (gets_with tie row i v ≡ gets_with tie row i w))
      ⊎ ((sells_with tie row i v ≡ false) × (gets_with tie row i w ≤ 2 * v.0))
  pub no_loss : sells_with tie row i v ≡ true → 2 * v.0 ≤ gets_with tie row i v

abbrev pub TrueAsks : Type 0
TrueAsks =
    (tie : ℕ → ℕ) (row : List Entry) → Apart tie row → (i : ℕ) → i < length row → (v w : Cents) → TrueAsk tie row i v w

-- CRITICAL PRICE, the strongest form. Others fixed, either a member never buys whatever it bids, or there is one price θ:
-- whenever it buys it pays θ, which is at most its bid, and whenever its bid is above θ it buys.
abbrev pub CriticalForBids : (ℕ → ℕ) → List Entry → ℕ → ℕ → Type 0
CriticalForBids tie row i θ =
    (w : Cents) →
    (buys_with tie row i w ≡ true → (pays_with tie row i w ≡ θ) × (θ ≤ 2 * w.0))
    × (θ < 2 * w.0 → buys_with tie row i w ≡ true)

abbrev pub CriticalBid : Type 0
CriticalBid =
    (tie : ℕ → ℕ) (row : List Entry) → Apart tie row → (i : ℕ) → i < length row →
    ((w : Cents) → buys_with tie row i w ≡ false) ⊎ ((θ : ℕ) × CriticalForBids tie row i θ)

-- And for sellers: whenever it sells it gets θ, which is at least its ask, and whenever its ask is below θ it sells.
abbrev pub CriticalForAsks : (ℕ → ℕ) → List Entry → ℕ → ℕ → Type 0
CriticalForAsks tie row i θ =
    (w : Cents) →
    (sells_with tie row i w ≡ true → (gets_with tie row i w ≡ θ) × (2 * w.0 ≤ θ))
    × (2 * w.0 < θ → sells_with tie row i w ≡ true)

abbrev pub CriticalAsk : Type 0
CriticalAsk =
    (tie : ℕ → ℕ) (row : List Entry) → Apart tie row → (i : ℕ) → i < length row →
    ((w : Cents) → sells_with tie row i w ≡ false) ⊎ ((θ : ℕ) × CriticalForAsks tie row i θ)

-- 4. THE PRICE IS NOT ONE'S OWN: a member who trades with each of two numbers has the same price with both.
abbrev pub BidMovesNoPrice : Type 0
BidMovesNoPrice =
    (tie : ℕ → ℕ) (row : List Entry) → Apart tie row → (i : ℕ) → i < length row → (v w : Cents) →
    buys_with tie row i v ≡ true → buys_with tie row i w ≡ true → pays_with tie row i v ≡ pays_with tie row i w

abbrev pub AskMovesNoPrice : Type 0
AskMovesNoPrice =
    (tie : ℕ → ℕ) (row : List Entry) → Apart tie row → (i : ℕ) → i < length row → (v w : Cents) →
    sells_with tie row i v ≡ true → sells_with tie row i w ≡ true → gets_with tie row i v ≡ gets_with tie row i w

-- 5. NO LOSS: a buyer pays at most its bid, and a seller gets at least its ask.
abbrev pub PaysAtMostBid : Type 0
PaysAtMostBid =
    (tie : ℕ → ℕ) (row : List Entry) → Apart tie row → (i : ℕ) (c : Cents) → slice_index_or row i Nothing ≡ Bid c →
    buys tie row i ≡ true → pays tie row ≤ 2 * c.0

abbrev pub GetsAtLeastAsk : Type 0
GetsAtLeastAsk =
    (tie : ℕ → ℕ) (row : List Entry) → Apart tie row → (i : ℕ) (c : Cents) → slice_index_or row i Nothing ≡ Ask c →
    sells tie row i ≡ true → 2 * c.0 ≤ gets tie row

-- 6. THE FUND NEVER PAYS: a buyer pays no less than a seller gets, and what all buyers pay is what all sellers get and
-- what the fund gets; of any two lists of bids and asks.
pub record Balanced (o : Outcome) : Type 0 where
  pub spread : sellers_get o ≤ buyers_pay o
  pub shared : trades_in o * buyers_pay o ≡ trades_in o * sellers_get o + fund_gets o

abbrev pub FundNeverPays : Type 0
FundNeverPays = (bs as' : List ℕ) → Balanced (cleared bs as')

-- As many members buy as there are trades, and as many sell.
abbrev pub AsManyBuy : Type 0
AsManyBuy =
    (tie : ℕ → ℕ) (row : List Entry) → Apart tie row → count_by (buys tie row) (members row) ≡ trades_in (outcome tie row)

abbrev pub AsManySell : Type 0
AsManySell =
    (tie : ℕ → ℕ) (row : List Entry) → Apart tie row → count_by (sells tie row) (members row) ≡ trades_in (outcome tie row)

-- 7. WHAT IS LEFT. All pairs trade, or all but one.
abbrev pub AllButOne : Type 0
AllButOne =
    (tie : ℕ → ℕ) (row : List Entry) →
    (trades_in (outcome tie row) ≡ pairs_in tie row) ⊎ (trades_in (outcome tie row) + 1 ≡ pairs_in tie row)

-- The last pair gains least: its bid less its ask is no more than that of any pair.
abbrev pub LeastLeft : Type 0
LeastLeft =
    (tie : ℕ → ℕ) (row : List Entry) (last r : ℕ) → pairs_in tie row ≡ last + 1 → r ≤ last →
    at_rank (bids tie row) last + at_rank (asks tie row) r ≤ at_rank (bids tie row) r + at_rank (asks tie row) last

-- Of those who did not trade, no two disjoint pairs could gain: i with j, and i' with j'.
abbrev pub NoTwoLeft : Type 0
NoTwoLeft =
    (tie : ℕ → ℕ) (row : List Entry) → Apart tie row → (i j i' j' : ℕ) (b a b' a' : Cents) →
    slice_index_or row i Nothing ≡ Bid b → slice_index_or row j Nothing ≡ Ask a → slice_index_or row i' Nothing ≡ Bid b' → slice_index_or row j' Nothing ≡ Ask a' →
    buys tie row i ≡ false → sells tie row j ≡ false → buys tie row i' ≡ false → sells tie row j' ≡ false →
    (i ≢ i') → (j ≢ j') → a.0 ≤ b.0 → a'.0 ≤ b'.0 → ⊥

-- And a pair of them gains no more than any pair of ranks that traded.
abbrev pub LeftGainLeast : Type 0
LeftGainLeast =
    (tie : ℕ → ℕ) (row : List Entry) → Apart tie row → (i j : ℕ) (b a : Cents) (r : ℕ) →
    slice_index_or row i Nothing ≡ Bid b → slice_index_or row j Nothing ≡ Ask a → buys tie row i ≡ false → sells tie row j ≡ false →
    r < trades_in (outcome tie row) → b.0 + at_rank (asks tie row) r ≤ at_rank (bids tie row) r + a.0

-- No matching has a greater gain than the pairs of ranks: its bids less its asks are at most theirs.
abbrev pub GreatestGain : Type 0
GreatestGain =
    (tie : ℕ → ℕ) (row : List Entry) (ms : List Match) → Matching row ms →
    all_bids row ms + sum (take (pairs_in tie row) (asks tie row)) ≤ sum (take (pairs_in tie row) (bids tie row)) + all_asks row ms

-- No matching at one price, in half cents, has more pairs.
abbrev pub MostAtOnePrice : Type 0
MostAtOnePrice =
    (tie : ℕ → ℕ) (row : List Entry) (ms : List Match) (price : ℕ) → Matching row ms → AllByRecursion (AtPrice price row) ms →
    length ms ≤ pairs_in tie row

-- But a matching at several prices may have more that gain: bids 10 and 4, asks 3 and 9.
abbrev pub MoreMayGain : Type 0
MoreMayGain =
    (row : List Entry) × (ms : List Match) × Matching row ms × AllByRecursion (Gains row) ms × (pairs_in own row < length ms)

-- 8. THE EVENINGS of the table are by the rule.
abbrev pub EveningsTold : Type 0
EveningsTold = map by_rule evenings ≡ evenings

-- 9. ONLY THE FIRST MATTER: one rank past the pairs, of either side, gives the pairs and the outcome.
abbrev pub OnlyTheFirst : Type 0
OnlyTheFirst =
    (bs as' : List ℕ) (n : ℕ) → pairs bs as' < n →
    (pairs (take n bs) (take n as') ≡ pairs bs as') × (cleared (take n bs) (take n as') ≡ cleared bs as')

-- No number of an outcome is out of bounds: where no bid or ask is above most, no price is above twice that.
pub record Within (most : ℕ) (bs as' : List ℕ) (o : Outcome) : Type 0 where
  pub buyers : trades_in o ≤ length bs
  pub sellers : trades_in o ≤ length as'
  pub pay : buyers_pay o ≤ 2 * most
  pub get : sellers_get o ≤ 2 * most
  pub fund : fund_gets o ≤ length bs * (2 * most)

abbrev pub WithinBounds : Type 0
WithinBounds =
    (most : ℕ) (bs as' : List ℕ) → AllByRecursion (λ b. b ≤ most) bs → AllByRecursion (λ a. a ≤ most) as' → Within most bs as' (cleared bs as')

-- THE SAME OF A COMPUTED OUTCOME, to the members of a row as they stand in it, each with its true number v: whatever
-- other number w would trade, v trades too and at the same price, or w would gain nothing; who trades does not lose; and
-- the fund does not pay.
pub record Promised (tie : ℕ → ℕ) (row : List Entry) (o : Outcome) : Type 0 where
  pub best_bid : (i : ℕ) (v w : Cents) → slice_index_or row i Nothing ≡ Bid v → buys_with tie row i w ≡ true →
      ((rank Buyers tie row (standing i v) < trades_in o) × (buyers_pay o ≡ pays_with tie row i w))
      ⊎ ((trades_in o ≤ rank Buyers tie row (standing i v)) × (2 * v.0 ≤ pays_with tie row i w))
  pub best_ask : (i : ℕ) (v w : Cents) → slice_index_or row i Nothing ≡ Ask v → sells_with tie row i w ≡ true →
      ((rank Sellers tie row (standing i v) < trades_in o) × (sellers_get o ≡ gets_with tie row i w))
      ⊎ ((trades_in o ≤ rank Sellers tie row (standing i v)) × (gets_with tie row i w ≤ 2 * v.0))
  pub pays_at_most : (i : ℕ) (v : Cents) → slice_index_or row i Nothing ≡ Bid v → rank Buyers tie row (standing i v) < trades_in o →
      buyers_pay o ≤ 2 * v.0
  pub gets_at_least : (i : ℕ) (v : Cents) → slice_index_or row i Nothing ≡ Ask v → rank Sellers tie row (standing i v) < trades_in o →
      2 * v.0 ≤ sellers_get o
  pub balanced : Balanced o

-- of an outcome of two lists: to the members of each row of which they are the ranked lists
abbrev pub PromisedTo : List Ranked → List Ranked → Outcome → Type 0
PromisedTo buying selling o =
    (tie : ℕ → ℕ) (row : List Entry) → Apart tie row → buying ≡ ranked Buyers tie row → selling ≡ ranked Sellers tie row →
    Promised tie row o
