-- A matching pairs buyers with sellers of a row in any way at all, no member twice. Its gain is the sum of its bids less
-- the sum of its asks.
use Rattle.std.specs.Prelude.{◌≡◌, ℕ, ◌*◌, ◌≤◌, true, List, [], ◌∷◌, map, Some, None, sum_by, Option, ◌≢◌, slice_index_or}
use Rattle.std.specs.List.{AllByRecursion}
use Rattle.orders.specs.declared.money.Cents.{Cents}
use Rattle.orders.specs.declared.entry.Entry.{Entry}
use Rattle.orders.specs.declared.entry.Entry.TheVariants.{Nothing}
use Rattle.ranking.specs.declared.ranked.Side.TheVariants.{Buyers, Sellers}
use Rattle.clearing.specs.Kind.{number, stands_on}

-- a buyer and a seller, by their member numbers
pub record Match : Type 0 where
  pub buyer : ℕ
  pub seller : ℕ

-- no number twice
abbrev pub Distinct : List ℕ → Type 0
Distinct [] = Unit {0}
Distinct (k ∷ ks) = AllByRecursion (λ j. j ≢ k) ks × Distinct ks

pub record Matching (row : List Entry) (ms : List Match) : Type 0 where
  pub buyers_bid : AllByRecursion (λ m. stands_on Buyers (slice_index_or row m.buyer Nothing) ≡ true) ms
  pub sellers_ask : AllByRecursion (λ m. stands_on Sellers (slice_index_or row m.seller Nothing) ≡ true) ms
  pub buyers_once : Distinct (map (λ (m : Match). m.buyer) ms)
  pub sellers_once : Distinct (map (λ (m : Match). m.seller) ms)

abbrev pub cents_or_0 : Option Cents → ℕ
cents_or_0 None = 0
cents_or_0 (Some c) = c.0

-- the bid and the ask of a pair
abbrev pub bid_in : List Entry → Match → ℕ
bid_in row m = cents_or_0 (number Buyers row m.buyer)

abbrev pub ask_in : List Entry → Match → ℕ
ask_in row m = cents_or_0 (number Sellers row m.seller)

abbrev pub all_bids : List Entry → List Match → ℕ
all_bids row ms = sum_by (bid_in row) ms

abbrev pub all_asks : List Entry → List Match → ℕ
all_asks row ms = sum_by (ask_in row) ms

-- a pair could gain if its ask is at most its bid; it could trade at a price in half cents that lies between the two
abbrev pub Gains : List Entry → Match → Type 0
Gains row m = ask_in row m ≤ bid_in row m

abbrev pub AtPrice : ℕ → List Entry → Match → Type 0
AtPrice price row m = (2 * ask_in row m ≤ price) × (price ≤ 2 * bid_in row m)
