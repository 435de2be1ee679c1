-- What closing does. It goes through the kinds one after another. In a kind, by its row of entries, a member who buys pays
-- the buyers' price and is given a berth, a member who sells gets the sellers' price and gives up a berth, any other has
-- what it had, and the fund gets what is left of the price. Then all entries are empty; message numbers stay.
use Rattle.std.specs.Prelude.{◌≡◌, ℕ, ◌+◌, ◌-◌, ◌*◌, ◌<◌, ◌≤◌, cond, List, [], ◌∷◌, length, None, ◌==◌, slice_index}
use Rattle.std.specs.List.{range_with_len}
use Rattle.orders.specs.declared.entry.Entry.{Entry}
use Rattle.orders.specs.Entries.{kind_row}
use Rattle.orders.specs.Lent.{Held}
use Rattle.orders.specs.Opening.{emptied}
use Rattle.ranking.specs.Ranks.{own}
use Rattle.clearing.specs.Rule.{fund_gets}
use Rattle.clearing.specs.Kind.{outcome, buys, sells, pays, gets}

-- what a member pays and gets in a kind, in half cents, and how many berths it buys and sells
abbrev pub paid : List Entry → ℕ → ℕ
paid row i = cond (buys own row i) (pays own row) 0

abbrev pub got : List Entry → ℕ → ℕ
got row i = cond (sells own row i) (gets own row) 0

abbrev pub bought : List Entry → ℕ → ℕ
bought row i = cond (buys own row i) 1 0

abbrev pub sold : List Entry → ℕ → ℕ
sold row i = cond (sells own row i) 1 0

-- a member's account after the kinds ks, closed in that order
unfoldable pub account_after : (ℕ → List Entry) → ℕ → List ℕ → ℕ → ℕ
account_after rows i [] a = a
account_after rows i (k ∷ ks) a = account_after rows i ks ((a - paid (rows k) i) + got (rows k) i)

-- its berths of kind j after them
unfoldable pub berths_after : (ℕ → List Entry) → ℕ → ℕ → List ℕ → ℕ → ℕ
berths_after rows i j [] b = b
berths_after rows i j (k ∷ ks) b =
    berths_after rows i j ks (cond (k == j) ((b - sold (rows k) i) + bought (rows k) i) b)

-- the fund after them
unfoldable pub fund_after : (ℕ → List Entry) → List ℕ → ℕ → ℕ
fund_after rows [] f = f
fund_after rows (k ∷ ks) f = fund_after rows ks (f + fund_gets (outcome own (rows k)))

-- the kinds of an evening, in the order in which it closes them
abbrev pub kinds : ℕ → List ℕ
kinds K = range_with_len 0 K

-- what a member has after an evening of K kinds and M members is closed, by what was in memory before
abbrev pub closed_account : ℕ → ℕ → Held → ℕ → ℕ
closed_account K M h i = account_after (kind_row M h.entries) i (kinds K) (slice_index h.accounts i)

abbrev pub closed_berths : ℕ → ℕ → Held → ℕ → ℕ → ℕ
closed_berths K M h i j = berths_after (kind_row M h.entries) i j (kinds K) (slice_index h.berths (i * K + j))

abbrev pub closed_fund : ℕ → ℕ → Held → ℕ → ℕ
closed_fund K M h fund = fund_after (kind_row M h.entries) (kinds K) fund

-- the first k kinds are settled: each member's account and berths, and the fund, are what those kinds leave of what was in
-- memory before, and what stands beyond the members is as it was
pub record Settled (K M fund : ℕ) (before : Held) (k : ℕ) (accounts berths : List ℕ) (fund' : ℕ) : Type 0 where
  pub account : (i : ℕ) → i < M → slice_index accounts i ≡ account_after (kind_row M before.entries) i (kinds k) (slice_index before.accounts i)
  pub berth : (i j : ℕ) → i < M → j < K →
      slice_index berths (i * K + j) ≡ berths_after (kind_row M before.entries) i j (kinds k) (slice_index before.berths (i * K + j))
  pub takings : fund' ≡ fund_after (kind_row M before.entries) (kinds k) fund
  pub more_accounts : (i : ℕ) → M ≤ i → slice_index accounts i ≡ slice_index before.accounts i
  pub more_berths : (n : ℕ) → M * K ≤ n → slice_index berths n ≡ slice_index before.berths n
  pub as_many_accounts : length accounts ≡ length before.accounts
  pub as_many_berths : length berths ≡ length before.berths

-- what is in memory after closing, and what is then in the fund
pub record ClosedAs (K M fund : ℕ) (before after : Held) (fund' : ℕ) : Type 0 where
  pub settled : Settled K M fund before K after.accounts after.berths fund'
  pub entries : after.entries ≡ emptied None (K * M) before.entries
  pub committed : after.committed ≡ emptied None M before.committed
  pub numbers : after.numbers ≡ before.numbers
