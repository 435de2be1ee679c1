-- What an index holds, whatever holds the books of its kinds: for each kind and side the list that its book has. Of a
-- kind that there is not it holds nothing.
use Rattle.std.specs.Prelude.{ℕ, Bool, not, ◌&&◌, ◌||◌, List, [], Some, None, vec_items, Option, nat_lt}
use Rattle.std.specs.List.{slice_get}
use Rattle.ranking.specs.declared.index.Index.{Index}
use Rattle.ranking.specs.declared.ranked.Side.{Side}
use Rattle.ranking.specs.declared.ranked.Side.TheVariants.{Buyers, Sellers}
use Rattle.ranking.specs.declared.ranked.Ranked.{Ranked}
use Rattle.ranking.specs.Lists.{has}

-- a member of the first n, on neither of two sides
abbrev pub fresh_of : ℕ → (Side → List Ranked) → ℕ → Bool
fresh_of n listed m = nat_lt m n && not (has m (listed Buyers) || has m (listed Sellers))

module _ {B : Type 0} where
  unfoldable pub book_of : ℕ → Index B → Option B
  book_of k ix = slice_get (vec_items ix.books) k

  abbrev pub book_list : (Side → B → List Ranked) → Side → Option B → List Ranked
  book_list listed s None = []
  book_list listed s (Some b) = listed s b

  abbrev pub book_number : (B → ℕ) → Option B → ℕ
  book_number number None = 0
  book_number number (Some b) = number b

  -- the ranked list of a kind's side
  abbrev pub kind_list : (Side → B → List Ranked) → ℕ → Side → Index B → List Ranked
  kind_list listed k s ix = book_list listed s (book_of k ix)

  -- how many members there are in a kind
  abbrev pub kind_members : (B → ℕ) → ℕ → Index B → ℕ
  kind_members members k ix = book_number members (book_of k ix)

  abbrev pub kind_depth : (Side → B → ℕ) → ℕ → Side → Index B → ℕ
  kind_depth depth k s ix = book_number (depth s) (book_of k ix)

  -- a kind and a member that there are, the member on neither side of the kind
  abbrev pub free : (B → ℕ) → (Side → B → List Ranked) → ℕ → ℕ → Index B → Bool
  free members listed k m ix = fresh_of (kind_members members k ix) (λ s. kind_list listed k s ix) m
