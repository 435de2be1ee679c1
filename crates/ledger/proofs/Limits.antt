-- No sum of an evening's money comes near the end of its word.
use Rattle.std.proofs.Common.{◌≡◌, ℕ, ◌+◌, ◌-◌, ◌*◌, ◌<◌, ◌≤◌, Bool, true, false, cond, ◌&&◌, eqb, ltb, leb, List, length, get_or, Some, None, sum_by, unwrap_or, refl, ap, mul-le-mul, arith}
use Rattle.std.specs.List.{range_with_len, AllByRecursion}
use Rattle.std.proofs.ByRecursion.{All-weaker, All-map, All-from_get_or, sum_by_le}
use Rattle.std.proofs.lemmas.List.FromFn.{length-range_with_len}
use Rattle.std.proofs.lemmas.List.Sums.{count_by-le-length}
use Rattle.std.proofs.lemmas.Bool.{leb-true, and_parts}
use Rattle.orders.specs.declared.entry.Entry.{Entry}
use Rattle.orders.specs.declared.entry.Entry.TheVariants.{Nothing, Bid, Ask}
use Rattle.orders.specs.declared.money.Cents.{Cents}
use Rattle.orders.specs.Entries.{entry_of, kind_row}
use Rattle.orders.specs.Lent.{Held}
use Rattle.ranking.specs.declared.ranked.Side.{Side}
use Rattle.ranking.specs.declared.ranked.Side.TheVariants.{Buyers, Sellers}
use Rattle.ranking.specs.declared.ranked.Ranked.{Ranked}
use Rattle.ranking.specs.Ranks.{own, on_side, ranked}
use Rattle.clearing.specs.Rule.{cents_of, fund_gets}
use Rattle.clearing.specs.Kind.{bids, asks, outcome, stands_on, sells, gets}
use Rattle.clearing.specs.Statements.{Within}
use Rattle.clearing.proofs.Bounds.{within_bounds}
use Rattle.clearing.proofs.Leftover.{all_but_one, least_left, no_two_left, left_gain_least}
use Rattle.clearing.proofs.Pairing.{length_cents}
use Rattle.clearing.proofs.Rows.{InRow, ranked_in_row}
use Rattle.clearing.proofs.Standing.{length_ranked}
use Rattle.ledger.specs.Closing.{got, kinds}
use Rattle.ledger.specs.Statements.{Conserved, AllButOne}
use Rattle.ledger.specs.Underway.{InBounds}
use Rattle.ledger.specs.Worth.{cents_in}
use Rattle.ledger.proofs.Sums.{payments, account_exact}
use Rattle.ledger.proofs.Trading.{apart}
use Rattle.ledger.proofs.Worths.{sum_le_on}
use Rattle.ledger.proofs.Truths.{row_entry, row_length, holds}
use Rattle.ledger.proofs.Conservation.{fund_exact, kept_in_kind, money_kept}

abbrev pub most : ℕ
most = 10000000

pub cents_most : (n : ℕ) → cents_in (entry_of n) ≤ most
cents_most n = go (eqb n 0) (ltb 16777216 n && leb n 26777216) (ltb 33554432 n && leb n 43554432) refl refl
  where
    go : (x b a : Bool) → (ltb 16777216 n && leb n 26777216) ≡ b → (ltb 33554432 n && leb n 43554432) ≡ a →
        cents_in (unwrap_or (cond x (Some Nothing) (cond b (Some (Bid (record { 0 = n - 16777216 }))) (cond a (Some (Ask (record { 0 = n - 33554432 }))) None))) Nothing) ≤ most
    go true b a e f = omega arith
    go false true a e f = omega (arith, leb-true n 26777216 (and_parts (ltb 16777216 n) (leb n 26777216) e).1)
    go false false true e f = omega (arith, leb-true n 43554432 (and_parts (ltb 33554432 n) (leb n 43554432) f).1)
    go false false false e f = omega arith

on_side_cents : (s : Side) (e : Entry) (c : Cents) → on_side s e ≡ Some c → cents_in e ≡ c.0
on_side_cents Buyers Nothing c h = let z : ◌≡◌ {A = ℕ} 0 1 = cc in absurd (omega arith)
on_side_cents Buyers (Bid b) c h = cc
on_side_cents Buyers (Ask b) c h = let z : ◌≡◌ {A = ℕ} 0 1 = cc in absurd (omega arith)
on_side_cents Sellers Nothing c h = let z : ◌≡◌ {A = ℕ} 0 1 = cc in absurd (omega arith)
on_side_cents Sellers (Bid b) c h = let z : ◌≡◌ {A = ℕ} 0 1 = cc in absurd (omega arith)
on_side_cents Sellers (Ask b) c h = cc

module _ (row : List Entry) (low : (i : ℕ) → i < length row → cents_in (get_or row i Nothing) ≤ most) where
  low_ranked : (s : Side) → AllByRecursion (λ c. c ≤ most) (cents_of (ranked s own row))
  low_ranked s =
      All-map (λ c. c ≤ most) (λ (x : Ranked). x.cents.0) (ranked s own row)
      (All-weaker (InRow s row) (λ x. x.cents.0 ≤ most)
      (λ y h. omega (arith, low y.member h.0, on_side_cents s (get_or row y.member Nothing) y.cents h.1))
      (ranked s own row) (ranked_in_row s own row))

  bounded : Within most (bids own row) (asks own row) (outcome own row)
  bounded = within_bounds most (bids own row) (asks own row) (low_ranked Buyers) (low_ranked Sellers)

  pub gets_most : gets own row ≤ 2 * most
  gets_most = bounded.get

  pub got_most : (i : ℕ) → got row i ≤ 2 * most
  got_most i = go (sells own row i)
    where
      go : (t : Bool) → cond t (gets own row) 0 ≤ 2 * most
      go true = gets_most
      go false = omega arith

  pub fund_most : fund_gets (outcome own row) ≤ length row * (2 * most)
  fund_most =
      let few : length (bids own row) ≤ length row =
      omega (arith, length_cents (ranked Buyers own row), length_ranked Buyers own row, count_by-le-length (stands_on Buyers) row) in
      let wide : length (bids own row) * (2 * most) ≤ length row * (2 * most) = mul-le-mul few (omega arith) in
      omega (arith, bounded.fund, wide)

-- what is added up over the kinds, each of at most so much
pub sum_most : (f : ℕ → ℕ) (m a n : ℕ) → ((k : ℕ) → a ≤ k → k < a + n → f k ≤ m) → sum_by f (range_with_len a n) ≤ n * m
sum_most f m a n h =
    omega (
      arith,
      sum_le_on f (λ k. m) a n h,
      sum_by_le (λ k. m) m (range_with_len a n) (All-from_get_or (λ k. m ≤ m) (range_with_len a n) 0 (λ i l. omega arith)),
      ap (λ x. x * m) (length-range_with_len a n),
    )

module _ (K M fund : ℕ) (h : Held) (b : InBounds K M fund h) where
  abbrev rows : ℕ → List Entry
  rows = kind_row M h.entries

  pub low_row : (k : ℕ) → k < K → (i : ℕ) → i < length (rows k) → cents_in (get_or (rows k) i Nothing) ≤ most
  low_row k l i m =
      let in_row : i < M = omega (arith, row_length K M h 0 k (omega (arith, b.some_members)) l b.fits) in
      omega (arith, ap cents_in (row_entry K M h i k in_row l b.fits), cents_most (get_or h.entries (k * M + i) 0))

  pub takings_most : (k : ℕ) → k < K → fund_gets (outcome own (rows k)) ≤ 40000000000
  takings_most k l =
      let len = row_length K M h 0 k (omega (arith, b.some_members)) l b.fits in
      omega (arith, fund_most (rows k) (low_row k l), len, b.few_members)

  pub conserved : Conserved K M fund h
  conserved =
      record {
        in_kind = kept_in_kind K M h b.fits b.sound b.some_members;
        money = money_kept K M h b.fits b.sound b.some_members fund;
        has_money = cover;
        account_counts = λ i l.
            omega (
              arith,
              account_exact rows i (kinds K) (get_or h.accounts i 0) (cover i l),
              sum_most (λ k. got (rows k) i) (2 * most) 0 K (λ k p q. got_most (rows k) (low_row k (omega arith)) i),
              b.accounts i l,
              b.few_kinds,
            );
        fund_counts =
            omega (
              arith,
              fund_exact rows (kinds K) fund,
              sum_most (λ k. fund_gets (outcome own (rows k))) 40000000000 0 K (λ k p q. takings_most k (omega arith)),
              b.low_fund,
              b.few_kinds,
            );
      }
    where
      cover : (i : ℕ) → i < M → payments rows i (kinds K) ≤ get_or h.accounts i 0
      cover i l = (holds K M h i l b.fits (b.sound i l)).cover

pub all_but_one_in : (row : List Entry) → AllButOne row
all_but_one_in row =
    record {
      trades = all_but_one own row;
      least = least_left own row;
      no_two = no_two_left own row (apart row);
      left_gain_least = left_gain_least own row (apart row);
    }
