-- The first ranks of a kind trade: a member is among them once if it trades, and else not; so trades leave each member's
-- account and berths as its entry says.
use Rattle.std.proofs.Common.{◌≡◌, ℕ, zero, suc, ◌+◌, ◌-◌, ◌*◌, ◌/◌, ◌^◌, ◌<◌, ◌≤◌, min, Bool, true, false, cond, eqb, ltb, List, [], ◌∷◌, length, get_or, take, Some, None, count_by, Option, sym, refl, ap, ◌∙◌, ap₂, inl, inr, arith}
use mathlib.Core.Path.{fun_ext}
use Rattle.std.specs.List.{AllByRecursion}
use Rattle.std.proofs.lemmas.Nat.{div-mul-add}
use Rattle.std.proofs.ByRecursion.{All-get_or, All-from_get_or, All-weaker, All-take}
use Rattle.std.proofs.lemmas.List.{length-take-le}
use Rattle.std.proofs.lemmas.List.Sums.{sum_by-cons}
use Rattle.std.proofs.lemmas.Bool.{cases_eq, cases_lt, eq-eqb, ne_eqb, eqb-true, lt-ltb, le-ltb, cond-true, cond-false, both_ways}
use Rattle.orders.specs.declared.entry.Entry.{Entry}
use Rattle.orders.specs.declared.money.Cents.{Cents}
use Rattle.ranking.specs.declared.ranked.Side.{Side}
use Rattle.ranking.specs.declared.ranked.Side.TheVariants.{Buyers, Sellers}
use Rattle.ranking.specs.declared.ranked.Ranked.{Ranked}
use Rattle.ranking.specs.Ranks.{own, ranked}
use Rattle.clearing.specs.Rule.{trades_in}
use Rattle.clearing.specs.Kind.{outcome, number, standing, rank, trades_with, buys, sells, pays, gets}
use Rattle.clearing.proofs.AsMany.{trades_within}
use Rattle.clearing.proofs.Rows.{InRow, ranked_in_row}
use Rattle.clearing.proofs.Standing.{member_there, placed_at, rank_at}
use Rattle.ledger.specs.Closing.{paid, got, bought, sold}
use Rattle.ledger.specs.Trades.{trading, traded, account_cell, berth_cell, accounts_traded, berths_traded}
use Rattle.ledger.proofs.Cells.{touches, untouched, at_buyer, at_seller}
use Rattle.ledger.proofs.Trading.{apart, not_both}

none_counted : (p : Ranked → Bool) (xs : List Ranked) → AllByRecursion (λ x. p x ≡ false) xs → count_by p xs ≡ 0
none_counted p [] h = refl
none_counted p (x ∷ xs) h =
    sum_by-cons (λ x. cond (p x) 1 0) x xs ∙ ap₂ ◌+◌ (cond-false {A = ℕ} (p x) 1 0 h.0) (none_counted p xs h.1)

next_ltb : (r t : ℕ) → ltb r t ≡ ltb (suc r) (suc t)
next_ltb r t =
    elim (cases_lt r t) [
      | inl l ↦ lt-ltb r t l ∙ sym (lt-ltb (suc r) (suc t) (omega arith))
      | inr l ↦ le-ltb r t l ∙ sym (le-ltb (suc r) (suc t) (omega arith))
    ]

-- one that passes alone, at place r
one_counted : (p : Ranked → Bool) (d : Ranked) (xs : List Ranked) (r t : ℕ) → r < length xs → p (get_or xs r d) ≡ true →
    ((q : ℕ) → q < length xs → p (get_or xs q d) ≡ true → q ≡ r) → count_by p (take t xs) ≡ cond (ltb r t) 1 0
one_counted p d [] r t l e alone = absurd (omega arith)
one_counted p d (x ∷ xs) r zero l e alone = sym (cond-false {A = ℕ} (ltb r 0) 1 0 (le-ltb r 0 (omega arith)))
one_counted p d (x ∷ xs) zero (suc t) l e alone =
    sum_by-cons (λ x. cond (p x) 1 0) x (take t xs)
    ∙ ap₂ ◌+◌ (cond-true {A = ℕ} (p x) 1 0 e) (none_counted p (take t xs) (All-take (λ y. p y ≡ false) t xs others))
    ∙ sym (cond-true {A = ℕ} (ltb 0 (suc t)) 1 0 (lt-ltb 0 (suc t) (omega arith)))
  where
    others : AllByRecursion (λ y. p y ≡ false) xs
    others = All-from_get_or (λ y. p y ≡ false) xs d (λ q m. go q m (p (get_or xs q d)) refl)
      where
        go : (q : ℕ) → q < length xs → (b : Bool) → p (get_or xs q d) ≡ b → b ≡ false
        go q m true f = let z = alone (suc q) (omega arith) f in absurd (omega arith)
        go q m false f = refl
one_counted p d (x ∷ xs) (suc r) (suc t) l e alone =
    sum_by-cons (λ x. cond (p x) 1 0) x (take t xs)
    ∙ ap₂ ◌+◌ (cond-false {A = ℕ} (p x) 1 0 (first (p x) refl))
    (one_counted p d xs r t (omega arith) e (λ q m f. let z = alone (suc q) (omega arith) f in omega arith))
    ∙ same (ltb r t) (ltb (suc r) (suc t)) (next_ltb r t)
  where
    first : (b : Bool) → p x ≡ b → p x ≡ false
    first true f = let z = alone 0 (omega arith) f in absurd (omega arith)
    first false f = f

    same : (a b : Bool) → a ≡ b → 0 + cond a 1 0 ≡ cond b 1 0
    same a b h = omega (arith, ap {B = ℕ} (λ c. cond c 1 0) h)

-- how often a member is among the first ranks that trade
module _ (s : Side) (row : List Entry) (i : ℕ) where
  abbrev is : Ranked → Bool
  is x = eqb x.member i

  abbrev trades : ℕ
  trades = trades_in (outcome own row)

  some_same : (c d : Cents) → ◌≡◌ {A = Option Cents} (Some c) (Some d) → c ≡ d
  some_same c d h = cc

  pub times_traded : count_by is (take trades (ranked s own row)) ≡ cond (trades_with s own row i (number s row i)) 1 0
  times_traded = go (number s row i) refl
    where
      go : (o : Option Cents) → number s row i ≡ o → count_by is (take trades (ranked s own row)) ≡ cond (trades_with s own row i o) 1 0
      go None h =
          none_counted is (take trades (ranked s own row))
          (All-take (λ x. is x ≡ false) trades (ranked s own row)
          (All-weaker (InRow s row) (λ x. is x ≡ false)
          (λ y m. ne_eqb y.member i (λ e. none_there y m.1 e)) (ranked s own row) (ranked_in_row s own row)))
        where
          none_there : (y : Ranked) → number s row y.member ≡ Some y.cents → y.member ≡ i → ⊥
          none_there y m e =
              let z : ◌≡◌ {A = Option Cents} None (Some y.cents) = sym h ∙ ap (number s row) (sym e) ∙ m in
              let n : ◌≡◌ {A = ℕ} 0 1 = cc in
              omega arith
      go (Some c) h =
          let d : Ranked = standing i c in
          let p = placed_at s own row (apart row) i c h d in
          one_counted is d (ranked s own row) (rank s own row d) trades p.0
          (eq-eqb (get_or (ranked s own row) (rank s own row d) d).member i (ap (λ (x : Ranked). x.member) p.1))
          (λ q l e.
          let y : Ranked = get_or (ranked s own row) q d in
          let m = All-get_or (InRow s row) (ranked s own row) q d l (ranked_in_row s own row) in
          let e' : y.member ≡ i = eqb-true y.member i e in
          let ec : y.cents ≡ c = some_same y.cents c (sym m.1 ∙ ap (number s row) e' ∙ h) in
          let ey : y ≡ d = λ x. record { member = e' x; cents = ec x } in
          sym (rank_at s own row (apart row) q d l) ∙ ap (rank s own row) ey)

-- as many buyers trade as sellers
pub length_trading : (s : Side) (row : List Entry) → length (trading s row) ≡ trades_in (outcome own row)
length_trading s row = length-take-le (trades_in (outcome own row)) (ranked s own row) (trades_within s own row)

module _ (row : List Entry) (i : ℕ) (xs : List ℕ) where
  bought_there : buys own row i ≡ true → i < length row
  bought_there h = go (number Buyers row i) refl h
    where
      go : (o : Option Cents) → number Buyers row i ≡ o → trades_with Buyers own row i o ≡ true → i < length row
      go None e t = absurd (both_ways false refl t)
      go (Some c) e t = member_there Buyers row i c e

  sold_there : sells own row i ≡ true → i < length row
  sold_there h = go (number Sellers row i) refl h
    where
      go : (o : Option Cents) → number Sellers row i ≡ o → trades_with Sellers own row i o ≡ true → i < length row
      go None e t = absurd (both_ways false refl t)
      go (Some c) e t = member_there Sellers row i c e

  -- a cell that is member i's alone
  module _ (buy sell cell : ℕ → ℕ) (n : ℕ) (mine : (s : Side) → touches buy sell cell n (trading s row) ≡ cond (trades_with s own row i (number s row i)) 1 0)
      (there : i < length row → n < length xs) where
    abbrev here : ℕ
    here = get_or xs n 0

    even : length (trading Buyers row) ≡ length (trading Sellers row)
    even = length_trading Buyers row ∙ sym (length_trading Sellers row)

    pub own_cell : get_or (traded buy sell cell (trading Buyers row) (trading Sellers row) xs) n 0
        ≡ cond (buys own row i) (buy here) (cond (sells own row i) (sell here) here)
    own_cell = go (buys own row i) (sells own row i) refl refl
      where
        go : (b s : Bool) → buys own row i ≡ b → sells own row i ≡ s →
            get_or (traded buy sell cell (trading Buyers row) (trading Sellers row) xs) n 0 ≡ cond b (buy here) (cond s (sell here) here)
        go true true b s = absurd (not_both row i b s)
        go true false b s =
            at_buyer buy sell cell n (trading Buyers row) (trading Sellers row) xs
            (mine Buyers ∙ cond-true {A = ℕ} _ 1 0 b) (mine Sellers ∙ cond-false {A = ℕ} _ 1 0 s) (omega (arith, even)) (there (bought_there b))
        go false true b s =
            at_seller buy sell cell n (trading Buyers row) (trading Sellers row) xs
            (mine Buyers ∙ cond-false {A = ℕ} _ 1 0 b) (mine Sellers ∙ cond-true {A = ℕ} _ 1 0 s) (omega (arith, even)) (there (sold_there s))
        go false false b s =
            untouched buy sell cell n (trading Buyers row) (trading Sellers row) xs
            (mine Buyers ∙ cond-false {A = ℕ} _ 1 0 b) (mine Sellers ∙ cond-false {A = ℕ} _ 1 0 s)

  -- its account
  pub account_traded : length row ≤ length xs → get_or xs i 0 + gets own row < 2 ^ 64 →
      get_or (accounts_traded (pays own row) (gets own row) (trading Buyers row) (trading Sellers row) xs) i 0 ≡ (get_or xs i 0 - paid row i) + got row i
  account_traded long low =
      own_cell _ _ account_cell i (λ s. times_traded s row i) (λ l. omega arith) ∙ go (buys own row i) (sells own row i) refl refl
    where
      a : ℕ
      a = get_or xs i 0

      go : (b s : Bool) → buys own row i ≡ b → sells own row i ≡ s →
          cond b (a - pays own row) (cond s (min (a + gets own row) (2 ^ 64 - 1)) a) ≡ (a - cond b (pays own row) 0) + cond s (gets own row) 0
      go true true b s = absurd (not_both row i b s)
      go true false b s = omega arith
      go false true b s = omega (arith, low)
      go false false b s = omega arith

  -- its berths of the kind
  module _ (K k : ℕ) (within : k < K) where
    same_cell : (m : ℕ) → eqb (m * K + k) (i * K + k) ≡ eqb m i
    same_cell m =
        elim (cases_eq m i) [
          | inl e ↦ eq-eqb (m * K + k) (i * K + k) (ap (λ j. j * K + k) e) ∙ sym (eq-eqb m i e)
          | inr d ↦
              ne_eqb (m * K + k) (i * K + k) (λ e. d (sym (div-mul-add m K k within) ∙ ap (λ j. j / K) e ∙ div-mul-add i K k within))
              ∙ sym (ne_eqb m i d)
        ]

    pub berths_traded_here : (i < length row → i * K + k < length xs) → (bought row i ≡ 1 → get_or xs (i * K + k) 0 < 255) →
        get_or (berths_traded K k (trading Buyers row) (trading Sellers row) xs) (i * K + k) 0
        ≡ (get_or xs (i * K + k) 0 - sold row i) + bought row i
    berths_traded_here there room =
        own_cell _ _ (berth_cell K k) (i * K + k)
        (λ s. ap (λ (p : Ranked → Bool). count_by p (trading s row)) (fun_ext (λ x. same_cell x.member)) ∙ times_traded s row i) there
        ∙ go (buys own row i) (sells own row i) refl refl
      where
        n : ℕ
        n = get_or xs (i * K + k) 0

        go : (b s : Bool) → buys own row i ≡ b → sells own row i ≡ s →
            cond b (min (n + 1) (2 ^ 8 - 1)) (cond s (n - 1) n) ≡ (n - cond s 1 0) + cond b 1 0
        go true true b s = absurd (not_both row i b s)
        go true false b s = omega (arith, room (cond-true {A = ℕ} _ 1 0 b))
        go false true b s = omega arith
        go false false b s = omega arith

-- cells of nobody who trades
pub nobodys_cell : (buy sell cell : ℕ → ℕ) (row : List Entry) (n : ℕ) (xs : List ℕ) → ((m : ℕ) → m < length row → cell m ≡ n → ⊥) →
    get_or (traded buy sell cell (trading Buyers row) (trading Sellers row) xs) n 0 ≡ get_or xs n 0
nobodys_cell buy sell cell row n xs h = untouched buy sell cell n (trading Buyers row) (trading Sellers row) xs (none Buyers) (none Sellers)
  where
    none : (s : Side) → touches buy sell cell n (trading s row) ≡ 0
    none s =
        none_counted (λ x. eqb (cell x.member) n) (trading s row)
        (All-take (λ x. eqb (cell x.member) n ≡ false) (trades_in (outcome own row)) (ranked s own row)
        (All-weaker (InRow s row) (λ x. eqb (cell x.member) n ≡ false) (λ y m. ne_eqb (cell y.member) n (h y.member m.0))
        (ranked s own row) (ranked_in_row s own row)))
