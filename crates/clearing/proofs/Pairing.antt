-- Pairs of two lists, step by step.
use Rattle.std.proofs.Common.{◌≡◌, ℕ, suc, ◌+◌, ◌<◌, ◌≤◌, ◌⊎◌, List, [], ◌∷◌, length, get_or, Some, None, sym, refl, ap, ◌∙◌, inl, inr, arith}
use Rattle.std.proofs.lemmas.Bool.{le-leb, lt-leb, lt-ltb, le-ltb, cond-true, cond-false, and_from, and_left, and_right}
use Rattle.std.proofs.lemmas.List.{get_or-map, length-map}
use Rattle.ranking.specs.declared.ranked.Ranked.{Ranked}
use Rattle.clearing.specs.Rule.{cents_of, at_rank, pairs, middle_at, half_cents}

pub pairs_yes : (b a : ℕ) (bids asks : List ℕ) → a ≤ b → pairs (b ∷ bids) (a ∷ asks) ≡ suc (pairs bids asks)
unfolding pairs
pairs_yes b a bids asks h = rw (le-leb a b h)

pub pairs_no : (b a : ℕ) (bids asks : List ℕ) → b < a → pairs (b ∷ bids) (a ∷ asks) ≡ 0
unfolding pairs
pairs_no b a bids asks h = rw (lt-leb a b h)

pub pairs_no_bids : (asks : List ℕ) → pairs [] asks ≡ 0
unfolding pairs
pairs_no_bids asks = refl

pub pairs_no_asks : (bids : List ℕ) → pairs bids [] ≡ 0
unfolding pairs
pairs_no_asks [] = refl
pairs_no_asks (b ∷ bids) = refl

-- the number at a place of a ranked list
pub cents_at : (xs : List Ranked) (i : ℕ) (d : Ranked) → i < length xs → at_rank (cents_of xs) i ≡ (get_or xs i d).cents.0
cents_at xs i d h = get_or-map (λ (x : Ranked). x.cents.0) xs i d 0 h

pub length_cents : (xs : List Ranked) → length (cents_of xs) ≡ length xs
length_cents xs = length-map xs (λ (x : Ranked). x.cents.0)

pub middle_there : (r n : ℕ) (bids asks : List ℕ) → r < length bids → r < length asks →
    n ≡ at_rank bids r + at_rank asks r → middle_at r bids asks ≡ Some (half_cents n)
middle_there r n bids asks hb ha e =
    cond-true _ _ _ (and_from _ _ (lt-ltb r (length bids) hb) (lt-ltb r (length asks) ha))
    ∙ ap (λ m. Some (half_cents m)) (sym e)

pub middle_missing : (r : ℕ) (bids asks : List ℕ) → (length bids ≤ r) ⊎ (length asks ≤ r) → middle_at r bids asks ≡ None
middle_missing r bids asks (inl l) = cond-false _ _ _ (and_left _ _ (le-ltb r (length bids) l))
middle_missing r bids asks (inr l) = cond-false _ _ _ (and_right _ _ (le-ltb r (length asks) l))

-- counting rank by rank: n so far, and the pairs of what is left
pub pairs_more : (n q : ℕ) (xs ys xs' ys' : List Ranked) (x y : Ranked) → xs ≡ x ∷ xs' → ys ≡ y ∷ ys' → y.cents.0 ≤ x.cents.0 →
    n + pairs (cents_of xs) (cents_of ys) ≡ q → n + 1 + pairs (cents_of xs') (cents_of ys') ≡ q
pairs_more n q xs ys xs' ys' x y ex ey h e =
    let e' : n + pairs (cents_of (x ∷ xs')) (cents_of (y ∷ ys')) ≡ q = rw (ex, ey) at e in
    omega (arith, pairs_yes x.cents.0 y.cents.0 (cents_of xs') (cents_of ys') h)

pub pairs_stop : (n q : ℕ) (xs ys xs' ys' : List Ranked) (x y : Ranked) → xs ≡ x ∷ xs' → ys ≡ y ∷ ys' → x.cents.0 < y.cents.0 →
    n + pairs (cents_of xs) (cents_of ys) ≡ q → n ≡ q
pairs_stop n q xs ys xs' ys' x y ex ey h e =
    let e' : n + pairs (cents_of (x ∷ xs')) (cents_of (y ∷ ys')) ≡ q = rw (ex, ey) at e in
    omega (arith, pairs_no x.cents.0 y.cents.0 (cents_of xs') (cents_of ys') h)

pub pairs_end_bids : (n q : ℕ) (xs ys : List Ranked) → xs ≡ [] → n + pairs (cents_of xs) (cents_of ys) ≡ q → n ≡ q
pairs_end_bids n q xs ys ex e =
    let e' : n + pairs (cents_of []) (cents_of ys) ≡ q = rw ex at e in omega (arith, pairs_no_bids (cents_of ys))

pub pairs_end_asks : (n q : ℕ) (xs ys : List Ranked) → ys ≡ [] → n + pairs (cents_of xs) (cents_of ys) ≡ q → n ≡ q
pairs_end_asks n q xs ys ey e =
    let e' : n + pairs (cents_of xs) (cents_of []) ≡ q = rw ey at e in omega (arith, pairs_no_asks (cents_of xs))
