-- What a letter promises: the statements, and nothing else.
use Rattle.std.specs.Prelude.{◌≡◌, ℕ, ◌<◌, Bool, true, false, List, length, take, Some, None, Ok, Option, Result}
use Rattle.orders.specs.declared.money.Cents.{Cents}
use Rattle.orders.specs.declared.money.HalfCents.{HalfCents}
use Rattle.orders.specs.declared.entry.Entry.{Entry}
use Rattle.orders.specs.declared.refusal.Refusal.{Refusal}
use Rattle.orders.specs.Entries.{kind_row}
use Rattle.orders.specs.Range.{in_range}
use Rattle.orders.specs.Words.{byte_at}
use Rattle.ranking.specs.declared.ranked.Side.{Side}
use Rattle.ranking.specs.declared.ranked.Side.TheVariants.{Buyers, Sellers}
use Rattle.ranking.specs.Ranks.{own}
use Rattle.clearing.specs.Rule.{pairs}
use Rattle.clearing.specs.Kind.{number, buys, sells, pays, gets}
use Rattle.sheet.specs.Sheets.{sheet_of}
use Rattle.sheet.specs.Writing.{written_at}
use Rattle.letter.specs.declared.line.Line.{Line}
use Rattle.letter.specs.Following.{follows}
use Rattle.letter.specs.Lines.{line_in}
use Rattle.letter.specs.Letters.{pair_at, last_pair, last_of, next_of, tie_of, line_of, letter_of}
use Rattle.letter.specs.Checks.{line_at}
use Rattle.letter.specs.Telling.{allowed}

-- 1. EVERY LETTER OF EVERY EVENING IS ACCEPTED.
abbrev pub EveningsAccepted : List ℕ → Result Unit Refusal → Type 0
EveningsAccepted bs answer = (K M : ℕ) (codes : List ℕ) (i : ℕ) → bs ≡ letter_of K M codes i → answer ≡ Ok tt

-- whether a member of a row trades on a side, and what it pays or gets
abbrev pub trades_on : Side → List Entry → ℕ → Bool
trades_on Buyers row i = buys own row i
trades_on Sellers row i = sells own row i

abbrev pub price_on : Side → List Entry → ℕ
price_on Buyers row = pays own row
price_on Sellers row = gets own row

-- a price that is said is the price at which the member trades by the rule of the whole kind, and where none is said it
-- does not trade
pub record ByRule (s : Side) (row : List Entry) (i : ℕ) (said : Option HalfCents) : Type 0 where
  pub traded : (price : HalfCents) → said ≡ Some price → (trades_on s row i ≡ true) × (price.0 ≡ price_on s row)
  pub not_traded : said ≡ None → trades_on s row i ≡ false

-- a line whose entry, four numbers and word on a tie are those of member i in a kind's row
pub record IsOfRow (l : Line) (row : List Entry) (i : ℕ) : Type 0 where
  pub entry : number l.side row i ≡ Some l.cents
  pub last : l.last ≡ last_of row
  pub next : l.next ≡ next_of row
  pub tie : l.tie ≡ tie_of l.side row i l.cents

-- 2. WHAT A MEMBER RELIES ON: if a letter is accepted, then of each of its lines whose four numbers and word on a tie are
-- those of the entries, the member traded, at the price it says, exactly by the rule of the whole kind.
abbrev pub ReliedOn : List ℕ → Result Unit Refusal → Type 0
ReliedOn bs answer =
    answer ≡ Ok tt → (j : ℕ) (l : Line) → j < byte_at bs 2 → line_in (line_at bs j) ≡ Some l →
    (M : ℕ) (codes : List ℕ) (k i : ℕ) → IsOfRow l (kind_row M codes k) i → ByRule l.side (kind_row M codes k) i l.price

-- 3. THE FIRST RANKS SUFFICE: one rank past the pairs, of either side, gives the four numbers. (That it gives the pairs and
-- the outcome, the rule of a kind promises.)
abbrev pub FirstRanksSuffice : Type 0
FirstRanksSuffice =
    (bs as' : List ℕ) (n : ℕ) → pairs bs as' < n →
    (last_pair (take n bs) (take n as') (pairs (take n bs) (take n as')) ≡ last_pair bs as' (pairs bs as'))
    × (pair_at (take n bs) (take n as') (pairs (take n bs) (take n as')) ≡ pair_at bs as' (pairs bs as'))

-- 4. FROM THE SHEET OF THE ENTRIES the letter of the rule is written: its answer is the letter's length, and what is left in the
-- lent bytes is the letter, and then what was there.
abbrev pub OfEvening : ℕ → ℕ → List ℕ → List ℕ → ℕ → Result ℕ Refusal → List ℕ → List ℕ → Type 0
OfEvening K M codes sheet i answer old new =
    sheet ≡ sheet_of K M codes → allowed K M (length codes) i (length old) ≡ Ok tt →
    (answer ≡ Ok (length (letter_of K M codes i))) × (new ≡ written_at 0 (letter_of K M codes i) old)

-- 5. NOTHING IMPOSSIBLE IS ACCEPTED: a line follows if and only if it is the line of a member in some row of entries in range.
abbrev pub RowRanged : List Entry → Type 0
RowRanged row = (s : Side) (i : ℕ) (c : Cents) → number s row i ≡ Some c → in_range c.0 ≡ true

pub record OfSomeRow (l : Line) : Type 0 where
  pub row : List Entry
  pub ranged : RowRanged row
  pub member : ℕ
  pub entry : number l.side row member ≡ Some l.cents
  pub line : line_of l.side l.kind row member l.cents ≡ l

abbrev pub PossibleLines : Type 0
PossibleLines = (l : Line) → (follows l ≡ true → OfSomeRow l) × (OfSomeRow l → follows l ≡ true)
