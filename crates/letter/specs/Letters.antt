-- The letter of a member: a line for each kind in which it has an entry, in the order of kinds. A line tells, by the rule of
-- the whole kind, whether the member traded and at which price, and what it takes to see that: the last pair, the next
-- numbers, and where the member stands among those with the last pair's number.
use Rattle.std.specs.Prelude.{ℕ, zero, suc, cond, List, [], ◌∷◌, ◌++◌, Some, None, Option, ◌==◌, nat_lt, slice_index_or}
use Rattle.orders.specs.declared.money.Cents.{Cents}
use Rattle.orders.specs.declared.money.HalfCents.{HalfCents}
use Rattle.orders.specs.declared.entry.Entry.{Entry}
use Rattle.orders.specs.declared.entry.Entry.TheVariants.{Nothing, Bid, Ask}
use Rattle.orders.specs.Entries.{kind_row}
use Rattle.ranking.specs.declared.ranked.Side.{Side}
use Rattle.ranking.specs.declared.ranked.Side.TheVariants.{Buyers, Sellers}
use Rattle.ranking.specs.Ranks.{own}
use Rattle.clearing.specs.Rule.{at_rank, half_cents, price_of}
use Rattle.clearing.specs.Kind.{bids, asks, pairs_in, outcome, standing, rank, trades_with}
use Rattle.letter.specs.declared.line.Line.{Line}
use Rattle.letter.specs.declared.line.Pair.{Pair}
use Rattle.letter.specs.declared.tie.Tie.{Tie}
use Rattle.letter.specs.declared.tie.Tie.TheVariants.{NoTie, Before, At, After}
use Rattle.letter.specs.Following.{of_side}
use Rattle.letter.specs.Lines.{letter_bytes}

-- the bid and the ask of a rank, 0 where there is none
abbrev pub pair_of : ℕ → ℕ → Pair
pair_of bid ask = record { bid = record { 0 = bid }; ask = record { 0 = ask } }

abbrev pub pair_at : List ℕ → List ℕ → ℕ → Pair
pair_at bs as' r = pair_of (at_rank bs r) (at_rank as' r)

-- the last of so many pairs, and the next numbers
abbrev pub last_pair : List ℕ → List ℕ → ℕ → Pair
last_pair bs as' zero = pair_of 0 0
last_pair bs as' (suc last) = pair_at bs as' last

abbrev pub last_of : List Entry → Pair
last_of row = last_pair (bids own row) (asks own row) (pairs_in own row)

abbrev pub next_of : List Entry → Pair
next_of row = pair_at (bids own row) (asks own row) (pairs_in own row)

-- the word on a tie of a member with its number and its rank, by the number of the last pair and how many pairs there are
abbrev pub tie_word : ℕ → ℕ → ℕ → ℕ → Tie
tie_word c r last p = cond (c == last) (cond (nat_lt (suc r) p) Before (cond (suc r == p) At After)) NoTie

abbrev pub tie_of : Side → List Entry → ℕ → Cents → Tie
tie_of s row i c = tie_word c.0 (rank s own row (standing i c)) (of_side s (last_of row)) (pairs_in own row)

-- the price at which a member with a number trades, if it does
abbrev pub traded_at : Side → List Entry → ℕ → Cents → Option HalfCents
traded_at s row i c = cond (trades_with s own row i (Some c)) (Some (half_cents (price_of s (outcome own row)))) None

abbrev pub line_of : Side → ℕ → List Entry → ℕ → Cents → Line
line_of s k row i c =
    record {
      kind = k;
      side = s;
      cents = c;
      price = traded_at s row i c;
      last = last_of row;
      next = next_of row;
      tie = tie_of s row i c;
    }

-- the line of an entry, where it is one
abbrev pub entry_lines : ℕ → List Entry → ℕ → Entry → List Line
entry_lines k row i Nothing = []
entry_lines k row i (Bid c) = line_of Buyers k row i c ∷ []
entry_lines k row i (Ask c) = line_of Sellers k row i c ∷ []

abbrev pub kind_lines : ℕ → ℕ → List ℕ → ℕ → List Line
kind_lines k M codes i = entry_lines k (kind_row M codes k) i (slice_index_or (kind_row M codes k) i Nothing)

-- the lines of n kinds from kind k on
unfoldable pub lines_from : ℕ → List ℕ → ℕ → ℕ → ℕ → List Line
lines_from M codes i zero k = []
lines_from M codes i (suc n) k = kind_lines k M codes i ++ lines_from M codes i n (suc k)

-- THE LETTER of member i, of K kinds of M members
abbrev pub letter_of : ℕ → ℕ → List ℕ → ℕ → List ℕ
letter_of K M codes i = letter_bytes i (lines_from M codes i K 0)
