-- What the index of all kinds holds, over wide trees.
use Rattle.std.specs.Prelude.{ℕ, ◌+◌, ◌*◌, ◌≤◌, Bool, List, [], length, Some, None, Option}
use Rattle.std.specs.List.{AllByRecursion}
use Rattle.ranking_wide.specs.declared.book.Book.{Book}
use Rattle.ranking.specs.declared.index.Index.{Index as IndexOf}
use Rattle.ranking.specs.declared.ranked.Side.{Side}
use Rattle.ranking.specs.declared.ranked.Ranked.{Ranked}
use Rattle.ranking.specs.Kinds.{book_number, book_of, free as free_in, kind_depth as depth_in, kind_list as list_in, kind_members as members_in}
use Rattle.ranking_wide.specs.Books.{counts, depth, listed, members}

abbrev pub Index : Type 0
Index = IndexOf Book

-- the ranked list of a kind's side
abbrev pub kind_list : ℕ → Side → Index → List Ranked
kind_list k s ix = list_in listed k s ix

-- how many members there are in a kind
abbrev pub kind_members : ℕ → Index → ℕ
kind_members k ix = members_in members k ix

abbrev pub kind_depth : ℕ → Side → Index → ℕ
kind_depth k s ix = depth_in depth k s ix

abbrev pub book_counts : Side → Option Book → List ℕ
book_counts s None = []
book_counts s (Some b) = counts s b

-- the counts of the leaves of a side's tree
abbrev pub kind_counts : ℕ → Side → Index → List ℕ
kind_counts k s ix = book_counts s (book_of k ix)

-- what is said of a side's tree: its leaves have 32 keys at most, and there are not many of them
pub record Narrow (s : Side) (o : Option Book) : Type 0 where
  pub leaves : AllByRecursion (λ n. n ≤ 32) (book_counts s o)
  pub root : 16 * length (book_counts s o) ≤ book_number members o + 32

-- a kind and a member that there are, the member on neither side of the kind
abbrev pub free : ℕ → ℕ → Index → Bool
free k m ix = free_in members listed k m ix
