-- A kind at hand while an evening is closed: those of its ranks that matter stand in two lists, and its part is on the sheet
-- after those of the kinds before it.
use Rattle.std.specs.Prelude.{◌≡◌, ℕ, ◌+◌, ◌*◌, ◌<◌, ◌≤◌, List, length, take}
use Rattle.orders.specs.declared.entry.Entry.{Entry}
use Rattle.orders.specs.Entries.{kind_row}
use Rattle.ranking.specs.Indexes.{Index}
use Rattle.ranking.specs.declared.ranked.Side.TheVariants.{Buyers, Sellers}
use Rattle.ranking.specs.declared.ranked.Ranked.{Ranked}
use Rattle.ranking.specs.Ranks.{own}
use Rattle.clearing.specs.declared.outcome.Outcome.{Outcome}
use Rattle.clearing.specs.Rule.{trades_in}
use Rattle.clearing.specs.Kind.{outcome}
use Rattle.sheet.specs.Sheets.{sheet_of}
use Rattle.sheet.specs.Writing.{written_at}
use Rattle.ledger.specs.Indexed.{Lists}
use Rattle.ledger.specs.Trades.{trading}

-- the outcome is that of the row, and the lists begin with those who trade
pub record ClearedAs (row : List Entry) (o : Outcome) (buyers sellers : List Ranked) : Type 0 where
  pub by_rule : o ≡ outcome own row
  pub buying : take (trades_in o) buyers ≡ trading Buyers row
  pub selling : take (trades_in o) sellers ≡ trading Sellers row

-- the first k kinds are on the sheet, and all after them is as it was
pub record OnSheet (M : ℕ) (codes old : List ℕ) (k end : ℕ) (sheet : List ℕ) : Type 0 where
  pub ends : end ≡ length (sheet_of k M codes)
  pub bytes : sheet ≡ written_at 0 (sheet_of k M codes) old

-- one more kind is written
abbrev pub OneMore : ℕ → Index → ℕ → List ℕ → ℕ → List ℕ → ℕ → Type 0
OneMore k ix room sheet at sheet' end =
    (K M : ℕ) (codes old : List ℕ) → k < K → M ≤ 2000 → M ≤ room → Lists (kind_row M codes k) k ix →
    K * (16 + 6 * M) ≤ length old → length sheet ≡ length old → OnSheet M codes old k at sheet → OnSheet M codes old (k + 1) end sheet'
