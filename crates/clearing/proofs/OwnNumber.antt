-- A member's own number and its price, over rows: the critical price, and what follows from it.
use Rattle.std.proofs.Common.{◌≡◌, ℕ, ◌*◌, ◌<◌, Bool, true, false, ltb, ◌⊎◌, List, [], ◌∷◌, length, set, sym, refl, ap, ◌∙◌, inl, inr, arith}
use Rattle.std.proofs.lemmas.Bool.{cases_Bool, cases_lt, lt-ltb, le-ltb, ltb-true, both_ways}
use Rattle.std.proofs.lemmas.List.{get_or-set_same}
use Rattle.orders.specs.declared.money.Cents.{Cents}
use Rattle.orders.specs.declared.entry.Entry.{Entry}
use Rattle.orders.specs.declared.entry.Entry.TheVariants.{Nothing}
use Rattle.ranking.specs.declared.ranked.Side.{Side}
use Rattle.ranking.specs.declared.ranked.Side.TheVariants.{Buyers, Sellers}
use Rattle.ranking.specs.declared.ranked.Ranked.{Ranked}
use Rattle.ranking.specs.Ranks.{insert, on_side, ranked}
use Rattle.clearing.specs.Rule.{cents_of, pairs, cleared, trades_in, price_of}
use Rattle.clearing.specs.Kind.{Apart, outcome, number, standing, trades_with}
use Rattle.clearing.proofs.Sides.{other, Good, Better, good_or_better, good_same}
use Rattle.clearing.proofs.Critical.{Falling, Rising, Shifted, Case, Never, Critical, critical_price}
use Rattle.clearing.proofs.Settling.{bids_of, asks_of, pairs_are, clears}
use Rattle.clearing.proofs.Placing.{place, insert_put}
use Rattle.clearing.proofs.Rows.{entry, stands, ranked_falls, fellows, partners, own_list, other_list, rank_is_place}

abbrev pub trading : Side → (ℕ → ℕ) → List Entry → ℕ → Bool
trading s tie row i = trades_with s tie row i (number s row i)

outcome_from : (s : Side) (tie : ℕ → ℕ) (row : List Entry) (xs ys : List Ranked) → ranked s tie row ≡ xs →
    ranked (other s) tie row ≡ ys →
    outcome tie row ≡ cleared (bids_of s (cents_of xs) (cents_of ys)) (asks_of s (cents_of xs) (cents_of ys))
outcome_from Buyers tie row xs ys e f =
    ap (λ l. cleared (cents_of l) (cents_of (ranked Sellers tie row))) e ∙ ap (λ l. cleared (cents_of xs) (cents_of l)) f
outcome_from Sellers tie row xs ys e f =
    ap (λ l. cleared (cents_of (ranked Buyers tie row)) (cents_of l)) e ∙ ap (λ l. cleared (cents_of l) (cents_of xs)) f

rising : (s : Side) (ys : List ℕ) → Falling (other s) ys → Rising s ys
rising Buyers ys h = h
rising Sellers ys h = h

shifted : (s : Side) (cs ys : List ℕ) → (q : ℕ) × Shifted s cs ys q
shifted s cs [] = (
  0,
  record {
    own = omega arith;
    other = omega arith;
    pair = λ k l. absurd (omega arith);
    stop = λ l m g. omega arith;
  },
)
shifted s cs (y ∷ ys) =
    let h = pairs_are s cs ys in (
      pairs (bids_of s cs ys) (asks_of s cs ys),
      record {
        own = h.own;
        other = omega (arith, h.other);
        pair = h.pair;
        stop = λ l m g. h.stop l (omega arith) g;
      },
    )

module _ (s : Side) (tie : ℕ → ℕ) (row : List Entry) (a : Apart tie row) (i : ℕ) (l : i < length row) where
  abbrev cs : List ℕ
  cs = cents_of (fellows s tie row a i l)

  abbrev ys : List ℕ
  ys = cents_of (partners s tie row a i l)

  abbrev xs : Cents → List ℕ
  xs w = cents_of (insert s tie (standing i w) (fellows s tie row a i l))

  case_of : Cents → Case s cs ys
  case_of w =
      record {
        w = w.0;
        r = place s tie (standing i w) (fellows s tie row a i l);
        xs = xs w;
        p = pairs (bids_of s (xs w) ys) (asks_of s (xs w) ys);
        t = trades_in (cleared (bids_of s (xs w) ys) (asks_of s (xs w) ys));
        π = price_of s (cleared (bids_of s (xs w) ys) (asks_of s (xs w) ys));
        put = insert_put s tie (standing i w) (fellows s tie row a i l) (ranked_falls s tie (set row i Nothing));
        pairs = pairs_are s (xs w) ys;
        cleared = clears s (xs w) ys;
      }

  outcome_is : (w : Cents) →
      outcome tie (set row i (entry s w)) ≡ cleared (bids_of s (xs w) ys) (asks_of s (xs w) ys)
  outcome_is w =
      outcome_from s tie (set row i (entry s w)) _ _ (own_list s tie row a i l w) (other_list s tie row a i l w)

  trading_is : (w : Cents) → trading s tie (set row i (entry s w)) i ≡ ltb (case_of w).r (case_of w).t
  unfolding case_of
  trading_is w =
      ap (trades_with s tie (set row i (entry s w)) i)
      (ap (on_side s) (get_or-set_same row i (entry s w) Nothing l) ∙ stands s w)
      ∙ ap (λ n. ltb n (trades_in (outcome tie (set row i (entry s w))))) (rank_is_place s tie row a i l w)
      ∙ ap (λ o. ltb (place s tie (standing i w) (fellows s tie row a i l)) (trades_in o)) (outcome_is w)

  price_is : (w : Cents) → price_of s (outcome tie (set row i (entry s w))) ≡ (case_of w).π
  unfolding case_of
  price_is w = ap (price_of s) (outcome_is w)

  abbrev CriticalAt : ℕ → Type 0
  CriticalAt θ = (w : Cents) →
      (trading s tie (set row i (entry s w)) i ≡ true →
      (price_of s (outcome tie (set row i (entry s w))) ≡ θ) × Good s (2 * w.0) θ)
      × (Better s (2 * w.0) θ → trading s tie (set row i (entry s w)) i ≡ true)

  from_case : (θ : ℕ) → Critical s cs ys θ → CriticalAt θ
  unfolding case_of
  from_case θ h w = (
    λ t. let k = (h (case_of w)).0 (ltb-true _ _ (sym (trading_is w) ∙ t)) in (price_is w ∙ k.0, k.1),
    λ b. trading_is w ∙ lt-ltb _ _ ((h (case_of w)).1 b),
  )

  from_never : Never s cs ys → (w : Cents) → trading s tie (set row i (entry s w)) i ≡ false
  from_never h w =
      elim (cases_lt (case_of w).r (case_of w).t)
      [ inl b ↦ absurd (h (case_of w) b) | inr b ↦ trading_is w ∙ le-ltb _ _ b ]

  pub critical_in_row : ((w : Cents) → trading s tie (set row i (entry s w)) i ≡ false) ⊎ ((θ : ℕ) × CriticalAt θ)
  critical_in_row =
      elim (critical_price s cs ys (rising s ys (ranked_falls (other s) tie (set row i Nothing))) (shifted s cs ys).0
      (shifted s cs ys).1)
      [ inl h ↦ inl (from_never h) | inr h ↦ inr (h.0, from_case h.0 h.1) ]

  -- a number other than one's own gains nothing
  pub true_number : (v w : Cents) → trading s tie (set row i (entry s w)) i ≡ true →
      ((trading s tie (set row i (entry s v)) i ≡ true)
      × (price_of s (outcome tie (set row i (entry s v))) ≡ price_of s (outcome tie (set row i (entry s w)))))
      ⊎ ((trading s tie (set row i (entry s v)) i ≡ false) × Good s (price_of s (outcome tie (set row i (entry s w)))) (2 * v.0))
  true_number v w t =
      elim critical_in_row [
        | inl h ↦ absurd (both_ways _ (h w) t)
        | inr h ↦ elim (cases_Bool (trading s tie (set row i (entry s v)) i)) [
          | inl u ↦ inl (u, ((h.1 v).0 u).0 ∙ sym ((h.1 w).0 t).0)
          | inr u ↦ inr (
            u,
            good_same s _ _ _ _
                (elim (good_or_better s h.0 (2 * v.0))
                [ inl g ↦ g | inr b ↦ absurd (both_ways _ u ((h.1 v).1 b)) ]) (sym ((h.1 w).0 t).0) refl,
          )
        ]
      ]

  pub no_loss_with : (v : Cents) → trading s tie (set row i (entry s v)) i ≡ true →
      Good s (2 * v.0) (price_of s (outcome tie (set row i (entry s v))))
  no_loss_with v t =
      elim critical_in_row [
        | inl h ↦ absurd (both_ways _ (h v) t)
        | inr h ↦ let k = (h.1 v).0 t in good_same s _ _ _ _ k.1 refl (sym k.0)
      ]

  pub price_not_own_with : (v w : Cents) → trading s tie (set row i (entry s v)) i ≡ true →
      trading s tie (set row i (entry s w)) i ≡ true →
      price_of s (outcome tie (set row i (entry s v))) ≡ price_of s (outcome tie (set row i (entry s w)))
  price_not_own_with v w t u =
      elim (true_number v w u) [ inl h ↦ h.1 | inr h ↦ absurd (both_ways _ h.0 t) ]
