-- No matching does better than the pairs of ranks. Any price splits a pair's gain in two, what the bid is above it and
-- what the ask is below it; over a matching these are at most what they are over all members, and at a price between the
-- last pair and the next, all members' are those of the pairs.
use Rattle.std.proofs.Common.{◌≡◌, ℕ, zero, suc, ◌+◌, ◌-◌, ◌*◌, ◌<◌, ◌≤◌, max, Bool, true, false, cond, leb, ◌⊎◌, List, [], ◌∷◌, map, length, get_or, take, set, is_some, Some, None, sum_by, sum, Option, sym, refl, ap, ◌∙◌, inl, inr, arith}
use Rattle.std.specs.List.{AllByRecursion}
use Rattle.std.proofs.lemmas.List.Sums.{sum_by-cons, sum_by-set}
use Rattle.std.proofs.lemmas.List.{get_or-set_other, get_or_past}
use Rattle.std.proofs.lemmas.Bool.{cases_lt, le-leb, lt-leb, cond-true, cond-false, both_ways}
use Rattle.std.proofs.ByRecursion.{All-weaker}
use Rattle.orders.specs.declared.money.Cents.{Cents}
use Rattle.orders.specs.declared.entry.Entry.{Entry}
use Rattle.orders.specs.declared.entry.Entry.TheVariants.{Nothing}
use Rattle.ranking.specs.declared.ranked.Side.{Side}
use Rattle.ranking.specs.declared.ranked.Side.TheVariants.{Buyers, Sellers}
use Rattle.ranking.specs.declared.ranked.Ranked.{Ranked}
use Rattle.ranking.specs.Ranks.{on_side, ranked}
use Rattle.clearing.specs.Rule.{cents_of, at_rank}
use Rattle.clearing.specs.Kind.{bids, asks, pairs_in, number, stands_on}
use Rattle.clearing.specs.Matching.{Match, Distinct, cents_or_0, bid_in, ask_in, all_bids, all_asks}
use Rattle.clearing.specs.Statements.{GreatestGain, MostAtOnePrice}
use Rattle.clearing.proofs.Critical.{Falling, Pairs}
use Rattle.clearing.proofs.Settling.{pairs_are}
use Rattle.clearing.proofs.Totals.{counted_as, total_from, total_ranked, sum_parts}
use Rattle.clearing.proofs.Rows.{nothing_stands, ranked_falls}

-- what a number of a side counts for, under any measure g
abbrev measured : (ℕ → ℕ) → Option Cents → ℕ
measured g None = 0
measured g (Some c) = g c.0

abbrev worth : Side → (ℕ → ℕ) → Entry → ℕ
worth s g e = measured g (on_side s e)

worth_is : (g : ℕ → ℕ) (m : ℕ) (o : Option Cents) → measured g o ≡ counted_as (λ y. g y.cents.0) m o
worth_is g m None = refl
worth_is g m (Some c) = refl

sum_row : (s : Side) (g : ℕ → ℕ) (m : ℕ) (es : List Entry) → sum_by (worth s g) es ≡ total_from s (λ y. g y.cents.0) m es
sum_row s g m [] = refl
sum_row s g m (e ∷ es) =
    sum_by-cons (worth s g) e es ∙ ap (λ n. worth s g e + n) (sum_row s g (suc m) es)
    ∙ ap (λ n. n + total_from s (λ y. g y.cents.0) (suc m) es) (worth_is g m (on_side s e))

-- a sum over a row is the sum over its ranked list
sum_ranked : (s : Side) (tie : ℕ → ℕ) (g : ℕ → ℕ) (row : List Entry) → sum_by (worth s g) row ≡ sum_by g (cents_of (ranked s tie row))
unfolding ranked
sum_ranked s tie g row =
    sum_row s g 0 row ∙ total_ranked s tie (λ y. g y.cents.0) 0 row
    ∙ sum_parts g (λ (y : Ranked). y.cents.0) (ranked s tie row)

-- members taken from a row, none twice, count for at most the whole row
module _ (f : Entry → ℕ) (f-nothing : f Nothing ≡ 0) where
  abbrev at_member : List Entry → ℕ → ℕ
  at_member row k = f (get_or row k Nothing)

  same_others : (row : List Entry) (k : ℕ) (ks : List ℕ) → AllByRecursion (λ j. j ≡ k → ⊥) ks →
      sum_by (at_member (set row k Nothing)) ks ≡ sum_by (at_member row) ks
  same_others row k [] d = refl
  same_others row k (j ∷ ks) d =
      sum_by-cons (at_member (set row k Nothing)) j ks
      ∙ ap (λ n. n + sum_by (at_member (set row k Nothing)) ks) (ap f (get_or-set_other row k j Nothing Nothing d.0))
      ∙ ap (λ n. at_member row j + n) (same_others row k ks d.1)
      ∙ sym (sum_by-cons (at_member row) j ks)

  picked : (row : List Entry) (ks : List ℕ) → Distinct ks → sum_by (at_member row) ks ≤ sum_by f row
  picked row [] d = omega arith
  picked row (k ∷ ks) d =
      go (picked (set row k Nothing) ks d.1) (picked row ks d.1) (cases_lt k (length row))
    where
      go : sum_by (at_member (set row k Nothing)) ks ≤ sum_by f (set row k Nothing) → sum_by (at_member row) ks ≤ sum_by f row →
          (k < length row) ⊎ (length row ≤ k) → sum_by (at_member row) (k ∷ ks) ≤ sum_by f row
      go h _ (inl l) =
          omega (arith, h, sum_by-cons (at_member row) k ks, same_others row k ks d.0, sum_by-set f row k Nothing Nothing l, f-nothing)
      go _ h (inr l) =
          omega (arith, h, sum_by-cons (at_member row) k ks, ap f (get_or_past row k Nothing l), f-nothing)

worth_nothing : (s : Side) (g : ℕ → ℕ) → worth s g Nothing ≡ 0
worth_nothing s g = ap (measured g) (nothing_stands s)

-- one side of a matching counts for at most that side's ranked list
matched : (s : Side) (tie : ℕ → ℕ) (g : ℕ → ℕ) (row : List Entry) (part : Match → ℕ) (ms : List Match) → Distinct (map part ms) →
    sum_by (λ m. measured g (number s row (part m))) ms ≤ sum_by g (cents_of (ranked s tie row))
matched s tie g row part ms d =
    omega (
      arith,
      picked (worth s g) (worth_nothing s g) row (map part ms) d,
      sum_parts (λ k. worth s g (get_or row k Nothing)) part ms,
      sum_ranked s tie g row,
    )

-- where a measure is 0 from the place p on, the sum is that of the first p
front_sum : (g : ℕ → ℕ) (p : ℕ) (xs : List ℕ) → ((k : ℕ) → p ≤ k → k < length xs → g (at_rank xs k) ≡ 0) →
    sum_by g xs ≡ sum_by g (take p xs)
front_sum g zero [] h = refl
front_sum g zero (x ∷ xs) h =
    let ih : sum_by g xs ≡ sum_by g (take 0 xs) = front_sum g zero xs (λ k _ l. h (suc k) (omega arith) (omega arith)) in
    omega (arith, sum_by-cons g x xs, h 0 (omega arith) (omega arith))
front_sum g (suc p) [] h = refl
front_sum g (suc p) (x ∷ xs) h =
    let ih = front_sum g p xs (λ k l m. h (suc k) (omega arith) (omega arith)) in
    omega (arith, sum_by-cons g x xs, sum_by-cons g x (take p xs))

-- ---- the greatest gain
-- p pairs' gain, split at a price that lies within each of them
gain_split : (price p : ℕ) (bs as' : List ℕ) → p ≤ length bs → p ≤ length as' → ((k : ℕ) → k < p → price ≤ at_rank bs k) →
    ((k : ℕ) → k < p → at_rank as' k ≤ price) →
    sum (take p bs) ≡ sum_by (λ b. b - price) (take p bs) + sum_by (λ a. price - a) (take p as') + sum (take p as')
gain_split price zero bs as' lb la hb ha = refl
gain_split price (suc p) [] as' lb la hb ha = absurd (omega arith)
gain_split price (suc p) (b ∷ bs) [] lb la hb ha = absurd (omega arith)
gain_split price (suc p) (b ∷ bs) (a ∷ as') lb la hb ha =
    let ih = gain_split price p bs as' (omega arith) (omega arith) (λ k l. hb (suc k) (omega arith)) (λ k l. ha (suc k) (omega arith)) in
    omega (
      arith,
      sum_by-cons (λ x. x) b (take p bs),
      sum_by-cons (λ b. b - price) b (take p bs),
      sum_by-cons (λ a. price - a) a (take p as'),
      sum_by-cons (λ x. x) a (take p as'),
      hb 0 (omega arith),
      ha 0 (omega arith),
    )

-- a price between the last pair and the next
record Between (bs as' : List ℕ) (p price : ℕ) : Type 0 where
  bid_over : (k : ℕ) → k < p → price ≤ at_rank bs k
  ask_under : (k : ℕ) → k < p → at_rank as' k ≤ price
  bid_under : (k : ℕ) → p ≤ k → k < length bs → at_rank bs k ≤ price
  ask_over : (k : ℕ) → p ≤ k → k < length as' → price ≤ at_rank as' k

module _ (bs as' : List ℕ) (falls : Falling Buyers bs) (rises : Falling Sellers as') (p : ℕ) (ps : Pairs Buyers bs as' p) where
  -- the next bid, 0 where there is none, is at most each pair's bid and each later ask
  next_below_bids : (k : ℕ) → k < p → at_rank bs p ≤ at_rank bs k
  next_below_bids k l =
      elim (cases_lt p (length bs))
      [ inl h ↦ falls k p (omega arith) h | inr h ↦ omega (arith, get_or_past bs p 0 h) ]

  next_below_asks : (k : ℕ) → p ≤ k → k < length as' → at_rank bs p ≤ at_rank as' k
  next_below_asks k l m =
      elim (cases_lt p (length bs)) [
        | inl h ↦ elim (cases_lt (at_rank bs p) (at_rank as' p))
            [ inl g ↦ omega (arith, rises p k l m) | inr g ↦ absurd (ps.stop h (omega arith) g) ]
        | inr h ↦ omega (arith, get_or_past bs p 0 h)
      ]

  between_price : (n : ℕ) → p ≡ n → (price : ℕ) × Between bs as' p price
  between_price zero e = (
    at_rank bs p,
    record {
      bid_over = λ k l. absurd (omega arith);
      ask_under = λ k l. absurd (omega arith);
      bid_under = λ k l m. falls p k l m;
      ask_over = next_below_asks;
    },
  )
  between_price (suc last) e = (
    max (at_rank as' last) (at_rank bs p),
    record {
      bid_over = λ k l. omega (arith, next_below_bids k l, ps.pair last (omega arith), falls k last (omega arith) (omega (arith, ps.own)));
      ask_under = λ k l. omega (arith, rises k last (omega arith) (omega (arith, ps.other)));
      bid_under = λ k l m. omega (arith, falls p k l m);
      ask_over = λ k l m. omega (arith, next_below_asks k l m, rises last k (omega arith) m);
    },
  )

split_gain : (price : ℕ) (o o' : Option Cents) → is_some o' ≡ true →
    cents_or_0 o ≤ cents_or_0 o' + measured (λ b. b - price) o + measured (λ a. price - a) o'
split_gain price None o' h = omega arith
split_gain price (Some c) None h = absurd (both_ways false refl h)
split_gain price (Some c) (Some d) h = omega arith

split_gains : (price : ℕ) (row : List Entry) (ms : List Match) →
    AllByRecursion (λ m. stands_on Sellers (get_or row m.seller Nothing) ≡ true) ms →
    all_bids row ms ≤ all_asks row ms + sum_by (λ m. measured (λ b. b - price) (number Buyers row m.buyer)) ms
    + sum_by (λ m. measured (λ a. price - a) (number Sellers row m.seller)) ms
split_gains price row [] h = omega arith
split_gains price row (m ∷ ms) h =
    let ih = split_gains price row ms h.1 in
    omega (
      arith,
      split_gain price (number Buyers row m.buyer) (number Sellers row m.seller) h.0,
      sum_by-cons (bid_in row) m ms,
      sum_by-cons (ask_in row) m ms,
      sum_by-cons (λ m. measured (λ b. b - price) (number Buyers row m.buyer)) m ms,
      sum_by-cons (λ m. measured (λ a. price - a) (number Sellers row m.seller)) m ms,
    )

pub greatest_gain : GreatestGain
greatest_gain tie row ms h =
    let bs : List ℕ = bids tie row in
    let as' : List ℕ = asks tie row in
    let p : ℕ = pairs_in tie row in
    let ps : Pairs Buyers bs as' p = pairs_are Buyers bs as' in
    let found = between_price bs as' (ranked_falls Buyers tie row) (ranked_falls Sellers tie row) p ps p refl in
    let price : ℕ = found.0 in
    let mid = found.1 in
    omega (
      arith,
      split_gains price row ms h.sellers_ask,
      matched Buyers tie (λ b. b - price) row (λ m. m.buyer) ms h.buyers_once,
      matched Sellers tie (λ a. price - a) row (λ m. m.seller) ms h.sellers_once,
      front_sum (λ b. b - price) p bs (λ k l m. omega (arith, mid.bid_under k l m)),
      front_sum (λ a. price - a) p as' (λ k l m. omega (arith, mid.ask_over k l m)),
      gain_split price p bs as' ps.own ps.other mid.bid_over mid.ask_under,
    )

-- ---- the most pairs at one price
abbrev one_if : Bool → ℕ
one_if b = cond b 1 0

one_if_le : (b : Bool) → one_if b ≤ 1
one_if_le true = omega arith
one_if_le false = omega arith

at_most : (t : ℕ → Bool) (p : ℕ) (xs : List ℕ) → sum_by (λ x. one_if (t x)) (take p xs) ≤ p
at_most t zero xs = omega arith
at_most t (suc p) [] = omega arith
at_most t (suc p) (x ∷ xs) =
    let ih = at_most t p xs in omega (arith, sum_by-cons (λ x. one_if (t x)) x (take p xs), one_if_le (t x))

-- each pair of the matching counts on a side where each of its members passes the test
counts_each : (s : Side) (t : ℕ → Bool) (row : List Entry) (part : Match → ℕ) (ms : List Match) →
    AllByRecursion (λ m. stands_on s (get_or row (part m) Nothing) ≡ true) ms → AllByRecursion (λ m. t (cents_or_0 (number s row (part m))) ≡ true) ms →
    length ms ≡ sum_by (λ m. measured (λ x. one_if (t x)) (number s row (part m))) ms
counts_each s t row part [] h k = refl
counts_each s t row part (m ∷ ms) h k =
    let ih = counts_each s t row part ms h.1 k.1 in
    omega (
      arith,
      one (number s row (part m)) h.0 k.0,
      sum_by-cons (λ m. measured (λ x. one_if (t x)) (number s row (part m))) m ms,
    )
  where
    one : (o : Option Cents) → is_some o ≡ true → t (cents_or_0 o) ≡ true → measured (λ x. one_if (t x)) o ≡ 1
    one None h k = absurd (both_ways false refl h)
    one (Some c) h k = cond-true _ _ _ k

side_bound : (s : Side) (tie : ℕ → ℕ) (t : ℕ → Bool) (row : List Entry) (part : Match → ℕ) (ms : List Match) (p : ℕ) →
    AllByRecursion (λ m. stands_on s (get_or row (part m) Nothing) ≡ true) ms → AllByRecursion (λ m. t (cents_or_0 (number s row (part m))) ≡ true) ms →
    Distinct (map part ms) →
    ((k : ℕ) → p ≤ k → k < length (cents_of (ranked s tie row)) → t (at_rank (cents_of (ranked s tie row)) k) ≡ false) →
    length ms ≤ p
side_bound s tie t row part ms p h k d none =
    omega (
      arith,
      counts_each s t row part ms h k,
      matched s tie (λ x. one_if (t x)) row part ms d,
      front_sum (λ x. one_if (t x)) p (cents_of (ranked s tie row)) (λ j l m. cond-false _ _ _ (none j l m)),
      at_most t p (cents_of (ranked s tie row)),
    )

pub most_at_one_price : MostAtOnePrice
most_at_one_price tie row ms price h at =
    elim (cases_lt (2 * at_rank bs p) price) [
      | inl low ↦ by_bids (λ k l m. lt-leb price (2 * at_rank bs k) (omega (arith, ranked_falls Buyers tie row p k l m)))
      | inr high ↦ elim (cases_lt p (length bs)) [
        | inr past ↦ by_bids (λ k l m. absurd (omega arith))
        | inl there ↦ side_bound Sellers tie (λ a. leb (2 * a) price) row (λ m. m.seller) ms p h.sellers_ask
            (All-weaker _ _ (λ m z. le-leb _ _ z.0) ms at) h.sellers_once
            (λ k l m. lt-leb (2 * at_rank as' k) price (asks_above there high k l m))
      ]
    ]
  where
    bs : List ℕ
    bs = bids tie row

    as' : List ℕ
    as' = asks tie row

    p : ℕ
    p = pairs_in tie row

    by_bids : ((k : ℕ) → p ≤ k → k < length bs → leb price (2 * at_rank bs k) ≡ false) → length ms ≤ p
    by_bids none =
        side_bound Buyers tie (λ b. leb price (2 * b)) row (λ m. m.buyer) ms p h.buyers_bid
        (All-weaker _ _ (λ m z. le-leb _ _ z.1) ms at) h.buyers_once none

    asks_above : p < length bs → price ≤ 2 * at_rank bs p → (k : ℕ) → p ≤ k → k < length as' → price < 2 * at_rank as' k
    asks_above there high k l m =
        elim (cases_lt (at_rank bs p) (at_rank as' p)) [
          | inl g ↦ omega (arith, ranked_falls Sellers tie row p k l m)
          | inr g ↦ absurd ((pairs_are Buyers bs as').stop there (omega arith) g)
        ]
