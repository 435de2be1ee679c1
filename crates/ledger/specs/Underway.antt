-- What always holds of an evening that is under way: an opening establishes it and every message keeps it.
use Rattle.std.specs.Prelude.{ℕ, ◌+◌, ◌*◌, ◌<◌, ◌≤◌, List, length, slice_index}
use Rattle.orders.specs.Lent.{Held, Fits}
use Rattle.orders.specs.Statements.{AllSound}
use Rattle.ranking.specs.Indexes.{Index}
use Rattle.ranking.specs.declared.ranked.Ranked.{Ranked}
use Rattle.ledger.specs.Indexed.{Indexed}

-- there are 1 to 64 kinds and 1 to 2,000 members; memory is long enough; each member's bids are covered together and its
-- entries backed; no account and no fund holds more than it may, in half cents
pub record InBounds (K M fund : ℕ) (h : Held) : Type 0 where
  pub few_kinds : K ≤ 64
  pub some_members : 1 ≤ M
  pub few_members : M ≤ 2000
  pub fits : Fits K M h
  pub sound : AllSound K M h
  pub accounts : (i : ℕ) → i < M → slice_index h.accounts i ≤ 2000000000
  pub low_fund : fund ≤ 1000000000000000

-- and the index is that of the entries
pub record Underway (K M fund : ℕ) (h : Held) (ix : Index) : Type 0 where
  pub in_bounds : InBounds K M fund h
  pub indexed : Indexed K M h.entries ix

-- and there is room to close it: a sheet, and a list of buyers and one of sellers
pub record Closable (K M fund : ℕ) (h : Held) (ix : Index) (sheet : List ℕ) (buyers sellers : List Ranked) : Type 0 where
  pub underway : Underway K M fund h ix
  pub sheet_room : K * (16 + 6 * M) ≤ length sheet
  pub buyers_room : M ≤ length buyers
  pub sellers_room : M ≤ length sellers
