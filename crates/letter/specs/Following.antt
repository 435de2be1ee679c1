-- What follows from a line of a letter: from the member's own number, the last pair (the bid and the ask of rank p - 1),
-- the next numbers (the bid and the ask of rank p) and the word on a tie. A number that is 0 is not there. From them
-- follow whether the member's rank is below the number of trades, and at which price it trades.
use Rattle.std.specs.Prelude.{ℕ, ◌+◌, ◌*◌, Bool, true, false, cond, not, ◌&&◌, ◌||◌, Some, None, Option, ◌==◌, nat_le}
use Rattle.orders.specs.declared.money.HalfCents.{HalfCents}
use Rattle.orders.specs.Range.{in_range}
use Rattle.ranking.specs.declared.ranked.Side.{Side}
use Rattle.ranking.specs.declared.ranked.Side.TheVariants.{Buyers, Sellers}
use Rattle.ranking.specs.Ranks.{better}
use Rattle.clearing.specs.Rule.{serves, half_cents}
use Rattle.letter.specs.declared.line.Line.{Line}
use Rattle.letter.specs.declared.line.Pair.{Pair}
use Rattle.letter.specs.declared.tie.Tie.{Tie}
use Rattle.letter.specs.declared.tie.Tie.TheVariants.{NoTie, Before, At, After}

-- the number of a side in a pair
abbrev pub of_side : Side → Pair → ℕ
of_side Buyers p = p.bid.0
of_side Sellers p = p.ask.0

abbrev pub there : ℕ → Bool
there n = nat_le 1 n

abbrev pub both_there : Pair → Bool
both_there p = there p.bid.0 && there p.ask.0

-- a bid and an ask that is at most the bid
abbrev pub meets : Pair → Bool
meets p = both_there p && nat_le p.ask.0 p.bid.0

-- POSSIBLE NUMBERS. Each is 0 or in range. The last pair is a pair, or there is none; the next numbers are none; and they
-- are no better than the last pair's.
abbrev pub number_or_none : ℕ → Bool
number_or_none n = n == 0 || in_range n

abbrev pub numbers_or_none : Pair → Bool
numbers_or_none p = number_or_none p.bid.0 && number_or_none p.ask.0

abbrev pub pair_or_none : Pair → Bool
pair_or_none p = meets p || (p.bid.0 == 0 && p.ask.0 == 0)

abbrev pub no_better : Pair → Pair → Bool
no_better next last = nat_le next.bid.0 last.bid.0 && (next.ask.0 == 0 || nat_le last.ask.0 next.ask.0)

abbrev pub possible : Pair → Pair → Bool
possible last next =
    numbers_or_none last && (numbers_or_none next && (pair_or_none last && (not (meets next) && (not (meets last) || no_better next last))))

-- WHERE THE MEMBER STANDS. Its number is better than that of the last pair, or no better than the next, which is there;
-- or it is that of the last pair, and then the word on the tie says where it stands. Behind the last pair it is no better
-- than the next.
abbrev pub ahead : Side → ℕ → Pair → Bool
ahead s c last = there (of_side s last) && better s c (of_side s last)

abbrev pub behind : Side → ℕ → Pair → Bool
behind s c next = there (of_side s next) && not (better s c (of_side s next))

abbrev pub tie_holds : Side → ℕ → Pair → Pair → Tie → Bool
tie_holds s c last next NoTie = not (c == of_side s last) && (ahead s c last || behind s c next)
tie_holds s c last next Before = c == of_side s last
tie_holds s c last next At = c == of_side s last
tie_holds s c last next After = c == of_side s last && behind s c next

-- whether the member's rank is below that of the last pair, and whether it is that rank
abbrev pub before_last : Side → ℕ → Pair → Tie → Bool
before_last s c last NoTie = ahead s c last
before_last s c last Before = true
before_last s c last At = false
before_last s c last After = false

abbrev pub at_last : Tie → Bool
at_last NoTie = false
at_last Before = false
at_last At = true
at_last After = false

-- WHAT IS DUE. If the price from the next numbers serves, the last pair trades too, at that price; else the price of a side
-- is its number in the last pair.
abbrev pub served : Pair → Pair → Bool
served last next = both_there next && serves (2 * last.ask.0) (next.bid.0 + next.ask.0) (2 * last.bid.0)

abbrev pub trades : Side → ℕ → Pair → Pair → Tie → Bool
trades s c last next tie = before_last s c last tie || (served last next && at_last tie)

abbrev pub price_of : Side → Pair → Pair → ℕ
price_of s last next = cond (served last next) (next.bid.0 + next.ask.0) (2 * of_side s last)

-- the price at which the member trades, if it does
abbrev pub due : Side → ℕ → Pair → Pair → Tie → Option HalfCents
due s c last next tie = cond (trades s c last next tie) (Some (half_cents (price_of s last next))) None

abbrev pub same_price : Option HalfCents → Option HalfCents → Bool
same_price None None = true
same_price None (Some y) = false
same_price (Some x) None = false
same_price (Some x) (Some y) = x.0 == y.0

-- numbers and a word on a tie with which a member can stand
abbrev pub can_stand : Side → ℕ → Pair → Pair → Tie → Bool
can_stand s c last next tie = in_range c && (possible last next && tie_holds s c last next tie)

-- A LINE FOLLOWS if its numbers are possible, its word on a tie holds, and it says what is due.
unfoldable pub follows : Line → Bool
follows l =
    can_stand l.side l.cents.0 l.last l.next l.tie
    && same_price l.price (due l.side l.cents.0 l.last l.next l.tie)
