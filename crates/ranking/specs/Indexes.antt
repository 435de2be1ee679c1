-- What the index holds whose books are trees in a row of slots.
use Rattle.std.specs.Prelude.{ℕ, Bool, List}
use Rattle.ranking.specs.declared.book.Book.{Book}
use Rattle.ranking.specs.declared.index.Index.{Index as IndexOf}
use Rattle.ranking.specs.declared.ranked.Side.{Side}
use Rattle.ranking.specs.declared.ranked.Ranked.{Ranked}
use Rattle.ranking.specs.Books.{depth, listed, members}
use Rattle.ranking.specs.Kinds.{free as free_in, kind_depth as depth_in, kind_list as list_in, kind_members as members_in}

abbrev pub Index : Type 0
Index = IndexOf Book

-- the ranked list of a kind's side
abbrev pub kind_list : ℕ → Side → Index → List Ranked
kind_list k s ix = list_in listed k s ix

-- how many members there are in a kind
abbrev pub kind_members : ℕ → Index → ℕ
kind_members k ix = members_in members k ix

abbrev pub kind_depth : ℕ → Side → Index → ℕ
kind_depth k s ix = depth_in depth k s ix

-- a kind and a member that there are, the member on neither side of the kind
abbrev pub free : ℕ → ℕ → Index → Bool
free k m ix = free_in members listed k m ix
