-- What the definitions of pairs and of the outcome say, in facts that the theory takes up from either side.
use Rattle.std.proofs.Common.{◌≡◌, ℕ, zero, suc, ◌+◌, ◌*◌, ◌<◌, ◌≤◌, eqb, leb, ◌⊎◌, List, [], ◌∷◌, length, Some, sym, refl, ap, subst, inl, inr, add_comm, arith}
use Rattle.std.proofs.lemmas.Bool.{cases_lt, le-leb, leb-true, eqb-true, eqb-false, and_from, and_parts, cond_both, both_ways}
use Rattle.ranking.specs.declared.ranked.Side.{Side}
use Rattle.ranking.specs.declared.ranked.Side.TheVariants.{Buyers, Sellers}
use Rattle.clearing.specs.declared.outcome.Outcome.{Outcome}
use Rattle.clearing.specs.declared.outcome.Outcome.TheVariants.{NoTrade}
use Rattle.clearing.specs.Rule.{at_rank, pairs, serves, half_cents, all_but_last, settled, outcome_of, cleared, trades_in, buyers_pay, sellers_get, price_of}
use Rattle.clearing.proofs.Pairing.{pairs_yes, pairs_no, pairs_no_bids, pairs_no_asks, middle_there, middle_missing}
use Rattle.clearing.proofs.Sides.{other, good_same, good_turned}
use Rattle.clearing.proofs.Critical.{Pairs, Serving, Cleared, none, one_price, two_prices}

-- own numbers and the other side's as bids and asks
abbrev pub bids_of : Side → List ℕ → List ℕ → List ℕ
bids_of Buyers own partner = own
bids_of Sellers own partner = partner

abbrev pub asks_of : Side → List ℕ → List ℕ → List ℕ
asks_of Buyers own partner = partner
asks_of Sellers own partner = own

no_pairs : (bids asks : List ℕ) → (length bids ≡ 0) ⊎ (length asks ≡ 0) → Pairs Buyers bids asks 0
no_pairs bids asks h =
    record {
      own = omega arith;
      other = omega arith;
      pair = λ k l. absurd (omega arith);
      stop = λ l m g. omega arith;
    }

buyers_pairs : (bids asks : List ℕ) → Pairs Buyers bids asks (pairs bids asks)
buyers_pairs [] asks = subst (λ n. Pairs Buyers [] asks n) (sym (pairs_no_bids asks)) (no_pairs [] asks (inl refl))
buyers_pairs (b ∷ bids) [] =
    subst (λ n. Pairs Buyers (b ∷ bids) [] n) (sym (pairs_no_asks (b ∷ bids))) (no_pairs (b ∷ bids) [] (inr refl))
buyers_pairs (b ∷ bids) (a ∷ asks) = go (buyers_pairs bids asks) (cases_lt b a)
  where
    first : (k : ℕ) → Pairs Buyers bids asks (pairs bids asks) → a ≤ b → k < suc (pairs bids asks) →
        at_rank (a ∷ asks) k ≤ at_rank (b ∷ bids) k
    first zero ih h l = h
    first (suc k) ih h l = ih.pair k (omega arith)

    go : Pairs Buyers bids asks (pairs bids asks) → (b < a) ⊎ (a ≤ b) →
        Pairs Buyers (b ∷ bids) (a ∷ asks) (pairs (b ∷ bids) (a ∷ asks))
    go ih (inl h) =
        subst (λ n. Pairs Buyers (b ∷ bids) (a ∷ asks) n) (sym (pairs_no b a bids asks h))
        (record {
          own = omega arith;
          other = omega arith;
          pair = λ k l. absurd (omega arith);
          stop = λ l m g. omega arith;
        })
    go ih (inr h) =
        subst (λ n. Pairs Buyers (b ∷ bids) (a ∷ asks) n) (sym (pairs_yes b a bids asks h))
        (record {
          own = omega (arith, ih.own);
          other = omega (arith, ih.other);
          pair = λ k l. first k ih h l;
          stop = λ l m g. ih.stop (omega arith) (omega arith) g;
        })

pub pairs_are : (s : Side) (own partner : List ℕ) → Pairs s own partner (pairs (bids_of s own partner) (asks_of s own partner))
pairs_are Buyers own partner = buyers_pairs own partner
pairs_are Sellers own partner =
    let h = buyers_pairs partner own in
    record { own = h.other; other = h.own; pair = h.pair; stop = λ l m g. h.stop m l g }

-- an outcome by the rule, with p pairs
pub data Settled (bids asks : List ℕ) (p : ℕ) (o : Outcome) : Type 0 where
  no_pair : p ≡ 0 → trades_in o ≡ 0 → buyers_pay o ≡ 0 → sellers_get o ≡ 0 → Settled bids asks p o
  all_pairs : (last : ℕ) → p ≡ suc last → Serving Buyers bids asks last → trades_in o ≡ suc last →
      buyers_pay o ≡ at_rank bids (suc last) + at_rank asks (suc last) →
      sellers_get o ≡ at_rank bids (suc last) + at_rank asks (suc last) → Settled bids asks p o
  only_pair : p ≡ 1 → (Serving Buyers bids asks 0 → ⊥) → trades_in o ≡ 0 → buyers_pay o ≡ 0 → sellers_get o ≡ 0 → Settled bids asks p o
  but_last : (last : ℕ) → 0 < last → p ≡ suc last → (Serving Buyers bids asks last → ⊥) → trades_in o ≡ last →
      buyers_pay o ≡ 2 * at_rank bids last → sellers_get o ≡ 2 * at_rank asks last → Settled bids asks p o

settles_but_last : (bids asks : List ℕ) (last : ℕ) → (Serving Buyers bids asks last → ⊥) →
    Settled bids asks (suc last) (all_but_last last (2 * at_rank bids last) (2 * at_rank asks last))
settles_but_last bids asks last v =
    cond_both (eqb last 0) NoTrade _ (λ o. Settled bids asks (suc last) o)
    (λ e. let z = eqb-true last 0 e in only_pair (ap suc z) (subst (λ n. Serving Buyers bids asks n → ⊥) z v) refl refl refl)
    (λ e. but_last last (omega (arith, eqb-false last 0 e)) refl v refl refl refl)

settles_next : (bids asks : List ℕ) (last : ℕ) → suc last < length bids → suc last < length asks →
    Settled bids asks (suc last)
    (settled last (2 * at_rank bids last) (2 * at_rank asks last)
    (Some (half_cents (at_rank bids (suc last) + at_rank asks (suc last)))))
settles_next bids asks last hb ha =
    let low : ℕ = 2 * at_rank asks last in
    let mid : ℕ = at_rank bids (suc last) + at_rank asks (suc last) in
    let high : ℕ = 2 * at_rank bids last in
    cond_both (serves low mid high) _ _ (λ o. Settled bids asks (suc last) o)
    (λ e. let h = and_parts (leb low mid) (leb mid high) e in
    all_pairs last refl
    (record { own = hb; other = ha; over = leb-true low mid h.0; under = leb-true mid high h.1 }) refl refl refl)
    (λ e. settles_but_last bids asks last (λ v. both_ways (serves low mid high) e
    (and_from (leb low mid) (leb mid high) (le-leb low mid v.over) (le-leb mid high v.under))))

settles_alone : (bids asks : List ℕ) (last : ℕ) → (length bids ≤ suc last) ⊎ (length asks ≤ suc last) →
    Settled bids asks (suc last) (outcome_of (suc last) bids asks)
settles_alone bids asks last h =
    subst (λ m. Settled bids asks (suc last) (settled last (2 * at_rank bids last) (2 * at_rank asks last) m))
    (sym (middle_missing (suc last) bids asks h))
    (settles_but_last bids asks last (λ v. omega (arith, v.own, v.other)))

settles_of : (p : ℕ) (bids asks : List ℕ) → Settled bids asks p (outcome_of p bids asks)
settles_of zero bids asks = no_pair refl refl refl refl
settles_of (suc last) bids asks =
    elim (cases_lt (suc last) (length bids)) [
      | inr h ↦ settles_alone bids asks last (inl h)
      | inl hb ↦ elim (cases_lt (suc last) (length asks)) [
        | inr h ↦ settles_alone bids asks last (inr h)
        | inl ha ↦
            subst (λ m. Settled bids asks (suc last) (settled last (2 * at_rank bids last) (2 * at_rank asks last) m))
            (sym (middle_there (suc last) _ bids asks hb ha refl)) (settles_next bids asks last hb ha)
      ]
    ]

pub settles : (bids asks : List ℕ) → Settled bids asks (pairs bids asks) (cleared bids asks)
settles bids asks = settles_of (pairs bids asks) bids asks

-- the same from the other side
serving_turned : (s : Side) (own partner : List ℕ) (last : ℕ) → Serving s own partner last → Serving (other s) partner own last
serving_turned s own partner last v =
    let e = add_comm (at_rank own (suc last)) (at_rank partner (suc last)) in
    record {
      own = v.other;
      other = v.own;
      over = good_same (other s) _ _ _ _ (good_turned s _ _ v.under) e refl;
      under = good_same (other s) _ _ _ _ (good_turned s _ _ v.over) refl e;
    }

from_side : (s : Side) (own partner : List ℕ) (p : ℕ) (o : Outcome) →
    Settled (bids_of s own partner) (asks_of s own partner) p o → Cleared s own partner p (trades_in o) (price_of s o)
from_side Buyers own partner p o (no_pair e t _ _) = none e t
from_side Buyers own partner p o (all_pairs last e v t b _) = one_price last e v t b
from_side Buyers own partner p o (only_pair e v t _ _) = two_prices 0 e v t (λ l. absurd (omega arith))
from_side Buyers own partner p o (but_last last l e v t b _) = two_prices last e v t (λ _. b)
from_side Sellers own partner p o (no_pair e t _ _) = none e t
from_side Sellers own partner p o (all_pairs last e v t _ a) =
    one_price last e (serving_turned Buyers partner own last v) t (omega arith)
from_side Sellers own partner p o (only_pair e v t _ _) =
    two_prices 0 e (λ z. v (serving_turned Sellers own partner 0 z)) t (λ l. absurd (omega arith))
from_side Sellers own partner p o (but_last last l e v t _ a) =
    two_prices last e (λ z. v (serving_turned Sellers own partner last z)) t (λ _. a)

pub clears : (s : Side) (own partner : List ℕ) →
    Cleared s own partner (pairs (bids_of s own partner) (asks_of s own partner))
    (trades_in (cleared (bids_of s own partner) (asks_of s own partner)))
    (price_of s (cleared (bids_of s own partner) (asks_of s own partner)))
clears s own partner = from_side s own partner _ _ (settles (bids_of s own partner) (asks_of s own partner))
