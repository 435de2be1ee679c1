-- What a member is worth after closing, by sums over the kinds: nobody loses at its own numbers, and true numbers are best.
use Rattle.std.proofs.Common.{◌≡◌, ℕ, zero, suc, ◌+◌, ◌-◌, ◌*◌, ◌<◌, ◌≤◌, List, get_or, sum_by, sym, ap, ◌∙◌, subst, inl, inr, mul-add, arith}
use Rattle.std.specs.List.{range_with_len}
use Rattle.std.proofs.lemmas.List.Sums.{sum_by-cons}
use Rattle.std.proofs.lemmas.Bool.{cases_eq}
use Rattle.orders.specs.declared.entry.Entry.{Entry}
use Rattle.orders.specs.declared.entry.Entry.TheVariants.{Nothing}
use Rattle.ledger.specs.Closing.{paid, got, bought, sold, account_after, berths_after, kinds}
use Rattle.ledger.specs.Worth.{cents_in, worth}
use Rattle.ledger.proofs.Trading.{moves, BetterIn}
use Rattle.ledger.proofs.Sums.{sum_add, payments, account_exact, berths_once, times_counting}

-- sums over the kinds from a on, term by term
pub sum_le_on : (f g : ℕ → ℕ) (a n : ℕ) → ((k : ℕ) → a ≤ k → k < a + n → f k ≤ g k) → sum_by f (range_with_len a n) ≤ sum_by g (range_with_len a n)
sum_le_on f g a zero h = omega arith
sum_le_on f g a (suc n) h =
    omega (
      arith,
      sum_by-cons f a (range_with_len (a + 1) n),
      sum_by-cons g a (range_with_len (a + 1) n),
      h a (omega arith) (omega arith),
      sum_le_on f g (a + 1) n (λ k l m. h k (omega arith) (omega arith)),
    )

pub sum_same_on : (f g : ℕ → ℕ) (a n : ℕ) → ((k : ℕ) → a ≤ k → k < a + n → f k ≡ g k) → sum_by f (range_with_len a n) ≡ sum_by g (range_with_len a n)
sum_same_on f g a n h =
    omega (
      arith,
      sum_le_on f g a n (λ k l m. omega (arith, h k l m)),
      sum_le_on g f a n (λ k l m. omega (arith, h k l m)),
    )

-- of two that differ at one kind at most
pub sum_but_one : (f g : ℕ → ℕ) (j a n : ℕ) → a ≤ j → j < a + n → ((k : ℕ) → a ≤ k → k < a + n → (k ≡ j → ⊥) → f k ≡ g k) →
    sum_by f (range_with_len a n) + g j ≡ sum_by g (range_with_len a n) + f j
sum_but_one f g j a zero l m h = absurd (omega arith)
sum_but_one f g j a (suc n) l m h =
    let cf = sum_by-cons f a (range_with_len (a + 1) n) in
    let cg = sum_by-cons g a (range_with_len (a + 1) n) in
    elim (cases_eq a j) [
      | inl e ↦
          omega (
            arith,
            cf,
            cg,
            ap f e,
            ap g e,
            sum_same_on f g (a + 1) n (λ k p q. h k (omega arith) (omega arith) (λ z. omega arith)),
          )
      | inr d ↦
          omega (
            arith,
            cf,
            cg,
            h a (omega arith) (omega arith) d,
            sum_but_one f g j (a + 1) n (omega (arith, d)) (omega arith) (λ k p q. h k (omega arith) (omega arith)),
          )
    ]

pub weigh : (v x y z w : ℕ) → x + y ≡ z + w → 2 * v * x + 2 * v * y ≡ 2 * v * z + 2 * v * w
weigh v x y z w e = sym (mul-add (2 * v) x y) ∙ ap (λ n. 2 * v * n) e ∙ mul-add (2 * v) z w

-- a member of an evening of K kinds: its entries are those of the rows, its bids are covered and its entries backed
pub record Holds (rows : ℕ → List Entry) (K i : ℕ) (f : ℕ → Entry) (a : ℕ) (b : ℕ → ℕ) : Type 0 where
  pub entries : (k : ℕ) → k < K → get_or (rows k) i Nothing ≡ f k
  pub cover : payments rows i (kinds K) ≤ a
  pub backing : (k : ℕ) → k < K → sold (rows k) i ≤ b k

module _ (rows : ℕ → List Entry) (K i : ℕ) (f : ℕ → Entry) (a : ℕ) (b : ℕ → ℕ) (v : ℕ → ℕ) (has : Holds rows K i f a b) where
  abbrev after : ℕ → ℕ
  after k = berths_after rows i k (kinds K) (b k)

  pub berths_exact : (k : ℕ) → k < K → after k + sold (rows k) i ≡ b k + bought (rows k) i
  berths_exact k l =
      omega (arith, berths_once rows i k (kinds K) (b k) (times_counting k 0 K (omega arith) (omega arith)), has.backing k l)

  -- berths at any numbers v
  pub berths_worth :
      sum_by (λ k. 2 * v k * after k) (kinds K) + sum_by (λ k. 2 * v k * sold (rows k) i) (kinds K)
      ≡ sum_by (λ k. 2 * v k * b k) (kinds K) + sum_by (λ k. 2 * v k * bought (rows k) i) (kinds K)
  berths_worth =
      sym (sum_add (λ k. 2 * v k * after k) (λ k. 2 * v k * sold (rows k) i) (kinds K))
      ∙ sum_same_on (λ k. 2 * v k * after k + 2 * v k * sold (rows k) i) (λ k. 2 * v k * b k + 2 * v k * bought (rows k) i) 0 K
      (λ k l m. weigh (v k) (after k) (sold (rows k) i) (b k) (bought (rows k) i) (berths_exact k (omega arith)))
      ∙ sum_add (λ k. 2 * v k * b k) (λ k. 2 * v k * bought (rows k) i) (kinds K)

module _ (rows : ℕ → List Entry) (K i : ℕ) (f : ℕ → Entry) (a : ℕ) (b : ℕ → ℕ) (has : Holds rows K i f a b) where
  abbrev v : ℕ → ℕ
  v k = cents_in (f k)

  pub no_loss :
      worth f (kinds K) a b ≤ worth f (kinds K) (account_after rows i (kinds K) a) (λ k. berths_after rows i k (kinds K) (b k))
  no_loss =
      let in_kind : (k : ℕ) → 0 ≤ k → k < 0 + K → paid (rows k) i + 2 * v k * sold (rows k) i ≤ got (rows k) i + 2 * v k * bought (rows k) i =
      λ k l m. subst (λ e. paid (rows k) i + 2 * cents_in e * sold (rows k) i ≤ got (rows k) i + 2 * cents_in e * bought (rows k) i)
      (has.entries k (omega arith)) (moves (rows k) i).no_loss in
      omega (
        arith,
        account_exact rows i (kinds K) a has.cover,
        berths_worth rows K i f a b v has,
        sum_le_on (λ k. paid (rows k) i + 2 * v k * sold (rows k) i) (λ k. got (rows k) i + 2 * v k * bought (rows k) i) 0 K in_kind,
        sum_add (λ k. paid (rows k) i) (λ k. 2 * v k * sold (rows k) i) (kinds K),
        sum_add (λ k. got (rows k) i) (λ k. 2 * v k * bought (rows k) i) (kinds K),
      )

  module _ (rows' : ℕ → List Entry) (f' : ℕ → Entry) (has' : Holds rows' K i f' a b)
      (better : (k : ℕ) → k < K → BetterIn (rows k) (rows' k) i (cents_in (f k))) where
    abbrev after' : ℕ → ℕ
    after' k = berths_after rows' i k (kinds K) (b k)

    pub true_best :
        worth f (kinds K) (account_after rows' i (kinds K) a) (λ k. after' k)
        ≤ worth f (kinds K) (account_after rows i (kinds K) a) (λ k. berths_after rows i k (kinds K) (b k))
    true_best =
        let lhs : ℕ → ℕ = λ k. got (rows' k) i + paid (rows k) i + (2 * v k * bought (rows' k) i + 2 * v k * sold (rows k) i) in
        let rhs : ℕ → ℕ = λ k. got (rows k) i + paid (rows' k) i + (2 * v k * bought (rows k) i + 2 * v k * sold (rows' k) i) in
        omega (
          arith,
          account_exact rows i (kinds K) a has.cover,
          account_exact rows' i (kinds K) a has'.cover,
          berths_worth rows K i f a b v has,
          berths_worth rows' K i f' a b v has',
          sum_le_on lhs rhs 0 K (λ k l m. better k (omega arith)),
          sum_add (λ k. got (rows' k) i + paid (rows k) i) (λ k. 2 * v k * bought (rows' k) i + 2 * v k * sold (rows k) i) (kinds K),
          sum_add (λ k. got (rows' k) i) (λ k. paid (rows k) i) (kinds K),
          sum_add (λ k. 2 * v k * bought (rows' k) i) (λ k. 2 * v k * sold (rows k) i) (kinds K),
          sum_add (λ k. got (rows k) i + paid (rows' k) i) (λ k. 2 * v k * bought (rows k) i + 2 * v k * sold (rows' k) i) (kinds K),
          sum_add (λ k. got (rows k) i) (λ k. paid (rows' k) i) (kinds K),
          sum_add (λ k. 2 * v k * bought (rows k) i) (λ k. 2 * v k * sold (rows' k) i) (kinds K),
        )

    -- where all other kinds' rows are the same
    pub true_in_kind : (k : ℕ) → k < K → ((j : ℕ) → j < K → (j ≡ k → ⊥) → rows' j ≡ rows j) →
        account_after rows' i (kinds K) a + 2 * v k * after' k
        ≤ account_after rows i (kinds K) a + 2 * v k * berths_after rows i k (kinds K) (b k)
    true_in_kind k l same =
        let sum_of : (t : List Entry → ℕ → ℕ) → sum_by (λ j. t (rows j) i) (kinds K) + t (rows' k) i ≡ sum_by (λ j. t (rows' j) i) (kinds K) + t (rows k) i =
        λ t. sum_but_one (λ j. t (rows j) i) (λ j. t (rows' j) i) k 0 K (omega arith) (omega arith)
        (λ j p q d. ap (λ r. t r i) (sym (same j (omega arith) d))) in
        omega (
          arith,
          account_exact rows i (kinds K) a has.cover,
          account_exact rows' i (kinds K) a has'.cover,
          sum_of paid,
          sum_of got,
          better k l,
          weigh (v k) _ _ _ _ (berths_exact rows K i f a b v has k l),
          weigh (v k) _ _ _ _ (berths_exact rows' K i f' a b v has' k l),
        )

    pub same_elsewhere : (k j : ℕ) → j < K → rows' j ≡ rows j → after' j ≡ berths_after rows i j (kinds K) (b j)
    same_elsewhere k j l same =
        let once = times_counting j 0 K (omega arith) (omega arith) in
        berths_once rows' i j (kinds K) (b j) once
        ∙ ap (λ r. (b j - sold r i) + bought r i) same ∙ sym (berths_once rows i j (kinds K) (b j) once)
