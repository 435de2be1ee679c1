-- Ranks over rows: a member's place in the ranked list of its side is how many come before it.
use Rattle.std.proofs.Common.{◌≡◌, ℕ, suc, ◌+◌, ◌<◌, true, cond, List, [], ◌∷◌, length, get_or, set, is_some, Some, None, Option, sym, refl, ap, ◌∙◌, subst, inl, inr, arith}
use Rattle.std.proofs.ByRecursion.{All-get_or}
use Rattle.std.proofs.lemmas.List.{get_or_past, set-get_or}
use Rattle.std.proofs.lemmas.List.Sums.{sum_by-cons}
use Rattle.std.proofs.lemmas.Bool.{cases_lt, cases_order, both_ways}
use Rattle.orders.specs.declared.money.Cents.{Cents}
use Rattle.orders.specs.declared.entry.Entry.{Entry}
use Rattle.orders.specs.declared.entry.Entry.TheVariants.{Nothing, Bid, Ask}
use Rattle.ranking.specs.declared.ranked.Side.{Side}
use Rattle.ranking.specs.declared.ranked.Side.TheVariants.{Buyers, Sellers}
use Rattle.ranking.specs.declared.ranked.Ranked.{Ranked}
use Rattle.ranking.specs.Ranks.{before, on_side, entered, ranked_from, ranked}
use Rattle.clearing.specs.Kind.{Apart, number, stands_on, how_many, standing, rank}
use Rattle.clearing.specs.Statements.{RanksOf}
use Rattle.clearing.proofs.Placing.{place, before_itself, before_not_back, length_insert, at_place, ordered_at}
use Rattle.clearing.proofs.Rows.{entry, InRow, ranked_in_row, ranked_ordered, fellows, own_list, rank_is_place}

-- an entry that stands on a side is that side's
entry_is : (s : Side) (e : Entry) (c : Cents) → on_side s e ≡ Some c → e ≡ entry s c
entry_is Buyers Nothing c h = let z : ◌≡◌ {A = ℕ} 0 1 = cc in absurd (omega arith)
entry_is Buyers (Bid b) c h = cc
entry_is Buyers (Ask b) c h = let z : ◌≡◌ {A = ℕ} 0 1 = cc in absurd (omega arith)
entry_is Sellers Nothing c h = let z : ◌≡◌ {A = ℕ} 0 1 = cc in absurd (omega arith)
entry_is Sellers (Bid b) c h = let z : ◌≡◌ {A = ℕ} 0 1 = cc in absurd (omega arith)
entry_is Sellers (Ask b) c h = cc

nothing_not : (s : Side) (c : Cents) → Nothing ≡ entry s c → ⊥
nothing_not Buyers c h = let z : ◌≡◌ {A = ℕ} 0 1 = cc in omega arith
nothing_not Sellers c h = let z : ◌≡◌ {A = ℕ} 0 1 = cc in omega arith

-- who stands on a side is a member, and its entry put in again leaves the row
pub member_there : (s : Side) (row : List Entry) (i : ℕ) (c : Cents) → number s row i ≡ Some c → i < length row
member_there s row i c h =
    elim (cases_lt i (length row)) [
      | inl l ↦ l
      | inr l ↦ absurd (nothing_not s c (sym (get_or_past row i Nothing l) ∙ entry_is s (get_or row i Nothing) c h))
    ]

pub put_back : (s : Side) (row : List Entry) (i : ℕ) (c : Cents) → number s row i ≡ Some c → set row i (entry s c) ≡ row
put_back s row i c h = ap (set row i) (sym (entry_is s (get_or row i Nothing) c h)) ∙ set-get_or row i Nothing

module _ (s : Side) (tie : ℕ → ℕ) (row : List Entry) (a : Apart tie row) where
  abbrev Placed : List Entry → Ranked → Ranked → Type 0
  Placed r x d = (rank s tie r x < length (ranked s tie r)) × (get_or (ranked s tie r) (rank s tie r x) d ≡ x)

  pub placed_at : (i : ℕ) (c : Cents) → number s row i ≡ Some c → (d : Ranked) → Placed row (standing i c) d
  placed_at i c h d =
      let l : i < length row = member_there s row i c h in
      let x : Ranked = standing i c in
      subst (λ r. Placed r x d) (put_back s row i c h)
      (subst (λ n. (n < length (ranked s tie (set row i (entry s c)))) × (get_or (ranked s tie (set row i (entry s c))) n d ≡ x))
      (sym (rank_is_place s tie row a i l c))
      (subst (λ m. (place s tie x (fellows s tie row a i l) < length m) × (get_or m (place s tie x (fellows s tie row a i l)) d ≡ x))
      (sym (own_list s tie row a i l c)) (at_place s tie x (fellows s tie row a i l) d)))

  -- of two places, the lower one's member comes before
  ordered_here : (x y : Ranked) (j k : ℕ) (d : Ranked) → j < k → k < length (ranked s tie row) →
      get_or (ranked s tie row) j d ≡ x → get_or (ranked s tie row) k d ≡ y → before s tie x y ≡ true
  ordered_here x y j k d l lk ej ek =
      subst (λ u. before s tie u y ≡ true) ej
      (subst (λ u. before s tie (get_or (ranked s tie row) j d) u ≡ true) ek
      (ordered_at s tie (ranked s tie row) j k d (ranked_ordered s tie row a) l lk))

  before_lower : (x y : Ranked) (j k : ℕ) (d : Ranked) → j < length (ranked s tie row) →
      get_or (ranked s tie row) j d ≡ x → get_or (ranked s tie row) k d ≡ y → before s tie x y ≡ true → j < k
  before_lower x y j k d lj ej ek b =
      elim (cases_order j k) [
        | inl e ↦
            let z : x ≡ y = sym ej ∙ ap (λ n. get_or (ranked s tie row) n d) e ∙ ek in
            absurd (both_ways _ (before_itself s tie y) (subst (λ u. before s tie u y ≡ true) z b))
        | inr h ↦ elim h [
          | inl l ↦ l
          | inr l ↦ absurd (both_ways _ (before_not_back s tie x y b) (ordered_here y x k j d l lj ek ej))
        ]
      ]

  pub before_lower_rank : (i j : ℕ) (c d : Cents) → number s row i ≡ Some c → number s row j ≡ Some d →
      before s tie (standing i c) (standing j d) ≡ true → rank s tie row (standing i c) < rank s tie row (standing j d)
  before_lower_rank i j c d h k b =
      let x : Ranked = standing i c in
      let p = placed_at i c h x in
      let q = placed_at j d k x in
      before_lower (standing i c) (standing j d) _ _ x p.0 p.1 q.1 b

  not_twice : (x : Ranked) (j k : ℕ) (d : Ranked) → j < k → k < length (ranked s tie row) →
      get_or (ranked s tie row) j d ≡ x → get_or (ranked s tie row) k d ≡ x → ⊥
  not_twice x j k d l lk ej ek = both_ways _ (before_itself s tie x) (ordered_here x x j k d l lk ej ek)

  one_place : (x : Ranked) (j k : ℕ) (d : Ranked) → j < length (ranked s tie row) → k < length (ranked s tie row) →
      get_or (ranked s tie row) j d ≡ x → get_or (ranked s tie row) k d ≡ x → j ≡ k
  one_place x j k d lj lk ej ek =
      elim (cases_order j k) [
        | inl e ↦ e
        | inr h ↦ elim h
            [ inl l ↦ absurd (not_twice x j k d l lk ej ek) | inr l ↦ absurd (not_twice x k j d l lj ek ej) ]
      ]

  -- the member at a place has that rank
  pub rank_at : (k : ℕ) (d : Ranked) → k < length (ranked s tie row) → rank s tie row (get_or (ranked s tie row) k d) ≡ k
  rank_at k d l =
      let y : Ranked = get_or (ranked s tie row) k d in
      let h = All-get_or (InRow s row) (ranked s tie row) k d l (ranked_in_row s tie row) in
      let p = placed_at y.member y.cents h.1 d in
      one_place y _ k d p.0 l p.1 refl

entered_length : (s : Side) (tie : ℕ → ℕ) (m : ℕ) (o : Option Cents) (xs : List Ranked) →
    length (entered s tie m o xs) ≡ cond (is_some o) 1 0 + length xs
entered_length s tie m None xs = omega arith
entered_length s tie m (Some c) xs = omega (arith, length_insert s tie (standing m c) xs)

length_from : (s : Side) (tie : ℕ → ℕ) (m : ℕ) (es : List Entry) → length (ranked_from s tie m es) ≡ how_many s es
unfolding ranked_from
length_from s tie m [] = refl
length_from s tie m (e ∷ es) =
    entered_length s tie m (on_side s e) (ranked_from s tie (suc m) es)
    ∙ ap (λ n. cond (stands_on s e) 1 0 + n) (length_from s tie (suc m) es)
    ∙ sym (sum_by-cons (λ e. cond (stands_on s e) 1 0) e es)

pub length_ranked : (s : Side) (tie : ℕ → ℕ) (row : List Entry) → length (ranked s tie row) ≡ how_many s row
unfolding ranked
length_ranked s tie row = length_from s tie 0 row

pub ranks_of : (s : Side) (tie : ℕ → ℕ) (row : List Entry) → Apart tie row → RanksOf s tie row
ranks_of s tie row a =
    record {
      counted = length_ranked s tie row;
      below = λ i c h. omega (arith, (placed_at s tie row a i c h (standing i c)).0, length_ranked s tie row);
      placed = λ i c h d. (placed_at s tie row a i c h d).1;
      one_each = λ i j c d h k e.
          let x : Ranked = standing i c in
          ap (λ (y : Ranked). y.member)
          (sym (placed_at s tie row a i c h x).1 ∙ ap (λ n. get_or (ranked s tie row) n x) e ∙ (placed_at s tie row a j d k x).1);
      filled = λ r l. filled r (omega (arith, length_ranked s tie row));
    }
  where
    zeroth : Ranked
    zeroth = standing 0 (record { 0 = 0 })

    filled : (r : ℕ) → r < length (ranked s tie row) →
        (i : ℕ) × (c : Cents) × (number s row i ≡ Some c) × (rank s tie row (standing i c) ≡ r)
    filled r l =
        let y : Ranked = get_or (ranked s tie row) r zeroth in
        let h = All-get_or (InRow s row) (ranked s tie row) r zeroth l (ranked_in_row s tie row) in
        (y.member, y.cents, h.1, rank_at s tie row a r zeroth l)
