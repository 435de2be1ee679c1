-- An index of entries holds, for each kind and side, the ranked list of the kind's row of entries.
use Rattle.std.specs.Prelude.{◌≡◌, ℕ, ◌<◌, List, length}
use Rattle.orders.specs.declared.entry.Entry.{Entry}
use Rattle.orders.specs.Entries.{kind_row}
use Rattle.ranking.specs.declared.ranked.Side.{Side}
use Rattle.ranking.specs.Indexes.{Index, kind_list, kind_members}
use Rattle.ranking.specs.Ranks.{own, ranked}

-- a kind of an index holds the ranked lists of a row
pub record Lists (row : List Entry) (k : ℕ) (ix : Index) : Type 0 where
  pub sides : (s : Side) → kind_list k s ix ≡ ranked s own row
  pub members : kind_members k ix ≡ length row

-- each of K kinds holds those of its row
abbrev pub Indexed : ℕ → ℕ → List ℕ → Index → Type 0
Indexed K M codes ix = (k : ℕ) → k < K → Lists (kind_row M codes k) k ix
