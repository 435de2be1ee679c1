-- A letter in bytes: the member (2), how many lines (1), and its lines of 28 bytes each. A line: the kind (1), the sort (1: 1
-- a bid, 2 an ask), the cents (4), whether it traded (1: 0 or 1), the price in half cents (4; 0 if it did not), the bid and the
-- ask of the last pair and the next bid and ask (4 each), and the word on a tie (1).
use Rattle.std.specs.Prelude.{ℕ, cond, ◌&&◌, List, [], ◌∷◌, ◌++◌, length, Some, None, Option, ◌==◌}
use Rattle.std.specs.List.{flat_map}
use Rattle.orders.specs.declared.money.Cents.{Cents}
use Rattle.orders.specs.declared.money.HalfCents.{HalfCents}
use Rattle.orders.specs.Words.{byte_at}
use Rattle.ranking.specs.declared.ranked.Side.{Side}
use Rattle.ranking.specs.declared.ranked.Side.TheVariants.{Buyers, Sellers}
use Rattle.clearing.specs.Rule.{half_cents}
use Rattle.letter.specs.declared.line.Line.{Line}
use Rattle.letter.specs.declared.line.Pair.{Pair}
use Rattle.letter.specs.declared.tie.Tie.{Tie}
use Rattle.letter.specs.declared.tie.Tie.TheVariants.{NoTie, Before, At, After}
use Rattle.sheet.specs.Words.{bytes2, bytes4}
use Rattle.letter.specs.Words.{number_at}

abbrev pub side_byte : Side → ℕ
side_byte Buyers = 1
side_byte Sellers = 2

abbrev pub traded_byte : Option HalfCents → ℕ
traded_byte None = 0
traded_byte (Some p) = 1

abbrev pub price_in : Option HalfCents → ℕ
price_in None = 0
price_in (Some p) = p.0

abbrev pub tie_byte : Tie → ℕ
tie_byte NoTie = 0
tie_byte Before = 1
tie_byte At = 2
tie_byte After = 3

-- its parts: the entry, the trade, a pair
abbrev pub entry_bytes : Line → List ℕ
entry_bytes l = l.kind ∷ side_byte l.side ∷ bytes4 l.cents.0

abbrev pub trade_bytes : Option HalfCents → List ℕ
trade_bytes price = traded_byte price ∷ bytes4 (price_in price)

abbrev pub pair_bytes : Pair → List ℕ
pair_bytes p = bytes4 p.bid.0 ++ bytes4 p.ask.0

unfoldable pub line_bytes : Line → List ℕ
line_bytes l =
    entry_bytes l ++ (trade_bytes l.price ++ (pair_bytes l.last ++ (pair_bytes l.next ++ (tie_byte l.tie ∷ []))))

abbrev pub letter_bytes : ℕ → List Line → List ℕ
letter_bytes member lines = bytes2 member ++ (length lines ∷ flat_map line_bytes lines)

-- The same read again: what 28 bytes say, if each of their words is known.
abbrev pub cents_at : List ℕ → ℕ → Cents
cents_at bs i = record { 0 = number_at bs i }

abbrev pub side_in : ℕ → Option Side
side_in n = cond (n == 1) (Some Buyers) (cond (n == 2) (Some Sellers) None)

abbrev pub trade_in : ℕ → ℕ → Option (Option HalfCents)
trade_in traded n =
    cond (traded == 1) (Some (Some (half_cents n))) (cond (traded == 0 && n == 0) (Some None) None)

abbrev pub tie_in : ℕ → Option Tie
tie_in n =
    cond (n == 0) (Some NoTie) (cond (n == 1) (Some Before) (cond (n == 2) (Some At) (cond (n == 3) (Some After) None)))

abbrev pub line_with : List ℕ → Option Side → Option (Option HalfCents) → Option Tie → Option Line
line_with bs None t w = None
line_with bs (Some s) None w = None
line_with bs (Some s) (Some t) None = None
line_with bs (Some s) (Some t) (Some w) =
    Some (record {
      kind = byte_at bs 0;
      side = s;
      cents = cents_at bs 2;
      price = t;
      last = record { bid = cents_at bs 11; ask = cents_at bs 15 };
      next = record { bid = cents_at bs 19; ask = cents_at bs 23 };
      tie = w;
    })

unfoldable pub line_in : List ℕ → Option Line
line_in bs =
    cond (length bs == 28)
    (line_with bs (side_in (byte_at bs 1)) (trade_in (byte_at bs 6) (number_at bs 7)) (tie_in (byte_at bs 27)))
    None
