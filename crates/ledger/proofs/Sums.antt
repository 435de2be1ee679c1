-- One member over all kinds: its account and berths after closing, as sums over the kinds.
use Rattle.std.proofs.Common.{◌≡◌, ℕ, zero, suc, ◌+◌, ◌-◌, ◌*◌, ◌<◌, ◌≤◌, cond, eqb, List, [], ◌∷◌, get_or, sum_by, count_by, sym, refl, ap, ◌∙◌, inl, inr, arith}
use Rattle.std.specs.List.{range_with_len}
use Rattle.std.proofs.lemmas.List.Sums.{sum_by-cons, sum_by-le-sum_by}
use Rattle.std.proofs.lemmas.Bool.{cases_eq, eq-eqb, ne_eqb, cond-true, cond-false}
use Rattle.orders.specs.declared.entry.Entry.{Entry}
use Rattle.orders.specs.declared.entry.Entry.TheVariants.{Nothing}
use Rattle.orders.specs.Entries.{bid_in}
use Rattle.orders.specs.Members.{bids}
use Rattle.ledger.specs.Closing.{paid, got, bought, sold, account_after, berths_after, kinds}
use Rattle.ledger.proofs.Trading.{moves}

-- sums over a list of kinds
pub sum_add : (f g : ℕ → ℕ) (ks : List ℕ) → sum_by (λ k. f k + g k) ks ≡ sum_by f ks + sum_by g ks
sum_add f g [] = refl
sum_add f g (k ∷ ks) =
    omega (arith, sum_by-cons (λ k. f k + g k) k ks, sum_by-cons f k ks, sum_by-cons g k ks, sum_add f g ks)

-- how often a kind is in a list of them
abbrev pub times : ℕ → List ℕ → ℕ
times j ks = count_by (λ k. eqb k j) ks

pub times_here : (j k : ℕ) (ks : List ℕ) → k ≡ j → times j (k ∷ ks) ≡ 1 + times j ks
times_here j k ks e =
    sum_by-cons (λ k. cond (eqb k j) 1 0) k ks ∙ ap (λ n. n + times j ks) (cond-true {A = ℕ} (eqb k j) 1 0 (eq-eqb k j e))

pub times_there : (j k : ℕ) (ks : List ℕ) → (k ≡ j → ⊥) → times j (k ∷ ks) ≡ times j ks
times_there j k ks d =
    sum_by-cons (λ k. cond (eqb k j) 1 0) k ks ∙ ap (λ n. n + times j ks) (cond-false {A = ℕ} (eqb k j) 1 0 (ne_eqb k j d))
    ∙ omega arith

times_before : (j a n : ℕ) → j < a → times j (range_with_len a n) ≡ 0
times_before j a zero l = refl
times_before j a (suc n) l = times_there j a (range_with_len (a + 1) n) (λ e. omega arith) ∙ times_before j (a + 1) n (omega arith)

times_after : (j a n : ℕ) → a + n ≤ j → times j (range_with_len a n) ≡ 0
times_after j a zero l = refl
times_after j a (suc n) l = times_there j a (range_with_len (a + 1) n) (λ e. omega arith) ∙ times_after j (a + 1) n (omega arith)

pub times_before_kind : (k : ℕ) → times k (kinds k) ≡ 0
times_before_kind k = times_after k 0 k (omega arith)

pub times_counting : (j a n : ℕ) → a ≤ j → j < a + n → times j (range_with_len a n) ≡ 1
times_counting j a zero l h = absurd (omega arith)
times_counting j a (suc n) l h =
    elim (cases_eq a j) [
      | inl e ↦ times_here j a (range_with_len (a + 1) n) e ∙ ap (λ m. 1 + m) (times_before j (a + 1) n (omega arith))
      | inr d ↦ times_there j a (range_with_len (a + 1) n) d ∙ times_counting j (a + 1) n (omega (arith, d)) (omega arith)
    ]

-- the last of the kinds counted from a
counting_last : (f : ℕ → ℕ) (a n : ℕ) → sum_by f (range_with_len a (suc n)) ≡ sum_by f (range_with_len a n) + f (a + n)
counting_last f a zero = let z : a + 0 ≡ a = omega arith in sum_by-cons f a [] ∙ omega (arith, ap f z)
counting_last f a (suc n) =
    let z : a + 1 + n ≡ a + suc n = omega arith in
    omega (
      arith,
      sum_by-cons f a (range_with_len (a + 1) (suc n)),
      sum_by-cons f a (range_with_len (a + 1) n),
      counting_last f (a + 1) n,
      ap f z,
    )

pub bids_are : (f : ℕ → Entry) (n : ℕ) → sum_by (λ k. bid_in (f k)) (range_with_len 0 n) ≡ bids f n
bids_are f zero = refl
bids_are f (suc n) =
    let z : 0 + n ≡ n = omega arith in
    omega (arith, counting_last (λ k. bid_in (f k)) 0 n, bids_are f n, ap (λ k. bid_in (f k)) z)

sum_double : (f : ℕ → ℕ) (ks : List ℕ) → sum_by (λ k. 2 * f k) ks ≡ 2 * sum_by f ks
sum_double f [] = refl
sum_double f (k ∷ ks) = omega (arith, sum_by-cons (λ k. 2 * f k) k ks, sum_by-cons f k ks, sum_double f ks)

module _ (rows : ℕ → List Entry) (i : ℕ) where
  abbrev pub payments : List ℕ → ℕ
  payments ks = sum_by (λ k. paid (rows k) i) ks

  abbrev pub receipts : List ℕ → ℕ
  receipts ks = sum_by (λ k. got (rows k) i) ks

  -- nothing is taken that is not there
  pub account_exact : (ks : List ℕ) (a : ℕ) → payments ks ≤ a → account_after rows i ks a + payments ks ≡ a + receipts ks
  unfolding account_after
  account_exact [] a h = refl
  account_exact (k ∷ ks) a h =
      let p = sum_by-cons (λ k. paid (rows k) i) k ks in
      let g = sum_by-cons (λ k. got (rows k) i) k ks in
      omega (arith, p, g, account_exact ks ((a - paid (rows k) i) + got (rows k) i) (omega (arith, p, h)))

  -- bids that are covered together cover all payments
  pub covered : (K a : ℕ) → 2 * bids (λ k. get_or (rows k) i Nothing) K ≤ a → payments (kinds K) ≤ a
  covered K a h =
      let f : ℕ → Entry = λ k. get_or (rows k) i Nothing in
      omega (
        arith,
        sum_by-le-sum_by (λ k. paid (rows k) i) (λ k. 2 * bid_in (f k)) (kinds K) (λ k. (moves (rows k) i).covered),
        sum_double (λ k. bid_in (f k)) (kinds K),
        bids_are f K,
        h,
      )

  pub berths_none : (j : ℕ) (ks : List ℕ) (b : ℕ) → times j ks ≡ 0 → berths_after rows i j ks b ≡ b
  unfolding berths_after
  berths_none j [] b h = refl
  berths_none j (k ∷ ks) b h =
      elim (cases_eq k j) [
        | inl e ↦ absurd (omega (arith, times_here j k ks e, h))
        | inr d ↦
            ap (λ n. berths_after rows i j ks n) (cond-false (eqb k j) _ b (ne_eqb k j d))
            ∙ berths_none j ks b (sym (times_there j k ks d) ∙ h)
      ]

  pub berths_once : (j : ℕ) (ks : List ℕ) (b : ℕ) → times j ks ≡ 1 →
      berths_after rows i j ks b ≡ (b - sold (rows j) i) + bought (rows j) i
  unfolding berths_after
  berths_once j [] b h = absurd (omega arith)
  berths_once j (k ∷ ks) b h =
      elim (cases_eq k j) [
        | inl e ↦
            ap (λ n. berths_after rows i j ks n) (cond-true (eqb k j) _ b (eq-eqb k j e))
            ∙ berths_none j ks _ (omega (arith, times_here j k ks e, h))
            ∙ ap (λ n. (b - sold (rows n) i) + bought (rows n) i) e
        | inr d ↦
            ap (λ n. berths_after rows i j ks n) (cond-false (eqb k j) _ b (ne_eqb k j d))
            ∙ berths_once j ks b (sym (times_there j k ks d) ∙ h)
      ]
