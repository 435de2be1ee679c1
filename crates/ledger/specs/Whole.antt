-- A whole evening: it opens on what is in memory, takes a row of messages, and is closed.
use Rattle.std.specs.Prelude.{ℕ, ◌*◌, ◌<◌, List, None}
use Rattle.orders.specs.Entries.{kind_row}
use Rattle.orders.specs.Lent.{Held}
use Rattle.orders.specs.Opening.{emptied}
use Rattle.orders.specs.Running.{run}
use Rattle.ledger.specs.Statements.{TrueEvenings, TrueNumber, NoLoss, Conserved, OrderIsFree, AllButOne}

-- what an opening leaves in memory
abbrev pub opened : ℕ → ℕ → Held → Held
opened K M h =
    record {
      entries = emptied None (K * M) h.entries;
      numbers = emptied None M h.numbers;
      committed = emptied None M h.committed;
      accounts = h.accounts;
      berths = h.berths;
    }

-- what is in memory when it is closed
abbrev pub at_closing : ℕ → ℕ → Held → List (List ℕ) → Held
at_closing K M h ms = run K M (opened K M h) ms

-- what is promised of closing
pub record Fair (K M fund : ℕ) (h : Held) : Type 0 where
  pub no_loss : NoLoss K M h
  pub conserved : Conserved K M fund h
  pub any_order : OrderIsFree K M fund h
  pub all_but_one : (k : ℕ) → k < K → AllButOne (kind_row M h.entries k)

-- and of the whole evening
pub record FairFromMessages (K M fund : ℕ) (h : Held) (ms : List (List ℕ)) : Type 0 where
  pub true_number : TrueNumber K M (opened K M h) ms
  pub true_evenings : TrueEvenings K M (opened K M h) ms
  pub closing : Fair K M fund (at_closing K M h ms)
