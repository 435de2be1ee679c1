-- What follows from four numbers and a tie, over plain numbers: own number c, own and other number of the last pair L and P,
-- own and other next number N and Q. One lemma for each way in which a member can stand to the last pair.
use Rattle.std.proofs.Common.{◌≡◌, ℕ, suc, ◌+◌, ◌*◌, ◌<◌, ◌≤◌, Bool, true, false, cond, eqb, ltb, ◌⊎◌, arith}
use Rattle.std.proofs.lemmas.Bool.Decides.{nat_tests}
use Rattle.orders.specs.Range.{in_range}
use Rattle.ranking.specs.declared.ranked.Side.{Side}
use Rattle.ranking.specs.declared.ranked.Side.TheVariants.{Buyers, Sellers}
use Rattle.clearing.proofs.Sides.{other, Good, Better}
use Rattle.letter.specs.declared.line.Pair.{Pair}
use Rattle.letter.specs.declared.tie.Tie.{Tie}
use Rattle.letter.specs.declared.tie.Tie.TheVariants.{NoTie, Before, At, After}
use Rattle.letter.specs.Letters.{pair_of, tie_word}
use Rattle.letter.specs.Following.{possible, tie_holds, trades, served, price_of}

pub least : (n : ℕ) → in_range n ≡ true → 1 ≤ n
least n h = grind (arith, nat_tests)

-- a pair by the own and the other number
abbrev pub sided : Side → ℕ → ℕ → Pair
sided Buyers x y = pair_of x y
sided Sellers x y = pair_of y x

-- a number that is not there, or is in range and no better than another
abbrev pub AfterIt : Side → ℕ → ℕ → Type 0
AfterIt s x n = (n ≡ 0) ⊎ ((in_range n ≡ true) × Good s x n)

-- next numbers that are not a pair
abbrev pub NoPair : Side → ℕ → ℕ → Type 0
NoPair s N Q = (N ≡ 0) ⊎ ((Q ≡ 0) ⊎ Better s Q N)

abbrev pub OrNone : ℕ → Type 0
OrNone n = (n ≡ 0) ⊎ (in_range n ≡ true)

pub possible_first : (s : Side) (N Q : ℕ) → OrNone N → OrNone Q → NoPair s N Q → possible (sided s 0 0) (sided s N Q) ≡ true
possible_first Buyers N Q hn hq apart = grind (arith, nat_tests)
possible_first Sellers N Q hn hq apart = grind (arith, nat_tests)

pub possible_after : (s : Side) (L P N Q : ℕ) → in_range L ≡ true → in_range P ≡ true → Good s L P → AfterIt s L N →
    AfterIt (other s) P Q → NoPair s N Q → possible (sided s L P) (sided s N Q) ≡ true
possible_after Buyers L P N Q hl hp g hn hq apart = grind (arith, nat_tests)
possible_after Sellers L P N Q hl hp g hn hq apart = grind (arith, nat_tests)

pub serves_next : (s : Side) (L P N Q : ℕ) → 1 ≤ N → 1 ≤ Q → Good s (N + Q) (2 * P) → Good s (2 * L) (N + Q) →
    served (sided s L P) (sided s N Q) ≡ true
serves_next Buyers L P N Q hn hq o u = grind (arith, nat_tests)
serves_next Sellers L P N Q hn hq o u = grind (arith, nat_tests)

-- and back
pub record Served (s : Side) (L P N Q : ℕ) : Type 0 where
  pub own : 1 ≤ N
  pub other : 1 ≤ Q
  pub over : Good s (N + Q) (2 * P)
  pub under : Good s (2 * L) (N + Q)

pub next_serves : (s : Side) (L P N Q : ℕ) → served (sided s L P) (sided s N Q) ≡ true → Served s L P N Q
next_serves Buyers L P N Q h =
    record { own = grind (arith, nat_tests); other = grind (arith, nat_tests); over = grind (arith, nat_tests); under = grind (arith, nat_tests) }
next_serves Sellers L P N Q h =
    record { own = grind (arith, nat_tests); other = grind (arith, nat_tests); over = grind (arith, nat_tests); under = grind (arith, nat_tests) }

-- the word on a tie
pub no_tie : (c r L p : ℕ) → (c ≡ L → ⊥) → tie_word c r L p ≡ NoTie
no_tie c r L p h = grind (arith, nat_tests)

pub tied : (c r L p : ℕ) → c ≡ L → tie_word c r L p ≡ cond (ltb (suc r) p) Before (cond (eqb (suc r) p) At After)
tied c r L p h = grind (arith, nat_tests)

tied_before : (c r L n : ℕ) → c ≡ L → r < n → tie_word c r L (suc n) ≡ Before
tied_before c r L n e l = grind (arith, nat_tests)

tied_at : (c n L : ℕ) → c ≡ L → tie_word c n L (suc n) ≡ At
tied_at c n L e = grind (arith, nat_tests)

tied_after : (c r L n : ℕ) → c ≡ L → n < r → tie_word c r L (suc n) ≡ After
tied_after c r L n e l = grind (arith, nat_tests)

-- WHERE A MEMBER STANDS: that the word on its tie holds, and whether it trades
abbrev pub Stands : Side → ℕ → Pair → Pair → Tie → Bool → Type 0
Stands s c last next tie b = (tie_holds s c last next tie ≡ true) × (trades s c last next tie ≡ b)

-- without a pair
pub stands_alone : (s : Side) (c r N Q : ℕ) → 1 ≤ c → 1 ≤ N → Good s N c →
    Stands s c (sided s 0 0) (sided s N Q) (tie_word c r 0 0) false
stands_alone Buyers c r N Q hc hn g = (grind (arith, nat_tests), grind (arith, nat_tests))
stands_alone Sellers c r N Q hc hn g = (grind (arith, nat_tests), grind (arith, nat_tests))

-- before the last pair
pub stands_before : (s : Side) (c r n L P N Q : ℕ) → r < n → 1 ≤ L → Good s c L →
    Stands s c (sided s L P) (sided s N Q) (tie_word c r L (suc n)) true
stands_before Buyers c r n L P N Q l hl g = (grind (arith, nat_tests), grind (arith, nat_tests))
stands_before Sellers c r n L P N Q l hl g = (grind (arith, nat_tests), grind (arith, nat_tests))

-- in the last pair
pub stands_at : (s : Side) (c n L P N Q : ℕ) → c ≡ L →
    Stands s c (sided s L P) (sided s N Q) (tie_word c n L (suc n)) (served (sided s L P) (sided s N Q))
stands_at Buyers c n L P N Q e = (grind (arith, nat_tests), grind (arith, nat_tests))
stands_at Sellers c n L P N Q e = (grind (arith, nat_tests), grind (arith, nat_tests))

-- after the last pair
pub stands_after : (s : Side) (c r n L P N Q : ℕ) → n < r → 1 ≤ N → Good s L N → Good s N c →
    Stands s c (sided s L P) (sided s N Q) (tie_word c r L (suc n)) false
stands_after Buyers c r n L P N Q l hn g h = (grind (arith, nat_tests), grind (arith, nat_tests))
stands_after Sellers c r n L P N Q l hn g h = (grind (arith, nat_tests), grind (arith, nat_tests))

-- the price
pub price_served : (s : Side) (L P N Q : ℕ) → served (sided s L P) (sided s N Q) ≡ true →
    price_of s (sided s L P) (sided s N Q) ≡ N + Q
price_served Buyers L P N Q h = rw h
price_served Sellers L P N Q h = rw h (omega arith)

pub price_unserved : (s : Side) (L P N Q : ℕ) → served (sided s L P) (sided s N Q) ≡ false →
    price_of s (sided s L P) (sided s N Q) ≡ 2 * L
price_unserved Buyers L P N Q h = rw h
price_unserved Sellers L P N Q h = rw h
