-- Where a member stands is seen by comparison with one listed member: that is the same as by its rank.
use Rattle.std.proofs.Common.{◌≡◌, ℕ, zero, suc, ◌<◌, ◌≤◌, true, cond, eqb, ltb, List, length, get_or, Some, None, Option, sym, refl, ap, ◌∙◌, subst, inl, inr, arith}
use Rattle.std.specs.List.{slice_get}
use Rattle.std.proofs.ByRecursion.{All-get_or}
use Rattle.std.proofs.lemmas.List.{get_or_past}
use Rattle.std.proofs.lemmas.Option.{slice_get-get_or, slice_get_past}
use Rattle.std.proofs.lemmas.Bool.Decides.{nat_tests}
use Rattle.std.proofs.lemmas.Bool.{cases_lt, cases_Bool, lt-ltb, le-ltb, both_ways}
use Rattle.orders.specs.declared.money.Cents.{Cents}
use Rattle.orders.specs.declared.money.HalfCents.{HalfCents}
use Rattle.orders.specs.declared.entry.Entry.{Entry}
use Rattle.ranking.specs.declared.ranked.Side.{Side}
use Rattle.ranking.specs.declared.ranked.Ranked.{Ranked}
use Rattle.ranking.specs.Ranks.{own, before, ranked}
use Rattle.clearing.specs.Rule.{cents_of, at_rank}
use Rattle.clearing.specs.Kind.{Apart, number, standing, rank}
use Rattle.clearing.proofs.Pairing.{cents_at, length_cents}
use Rattle.clearing.proofs.Placing.{ordered_at}
use Rattle.clearing.proofs.Rows.{InRow, ranked_in_row, ranked_ordered}
use Rattle.clearing.proofs.Standing.{placed_at, before_lower_rank, rank_at}
use Rattle.clearing.proofs.Theorems.{lower_member_first}
use Rattle.letter.specs.declared.tie.Tie.TheVariants.{NoTie, Before, At, After}
use Rattle.letter.specs.Letters.{pair_of, last_pair, tie_word}
use Rattle.letter.specs.Telling.{cents_or_0, tie_beside, price_beside}
use Rattle.letter.proofs.Positions.{no_tie}

-- the member of the rank before
abbrev pub nth_before : List Ranked → ℕ → Option Ranked
nth_before xs zero = None
nth_before xs (suc r) = slice_get xs r

pub nobody : Ranked
nobody = standing 0 (record { 0 = 0 })

pub own_apart : (row : List Entry) → Apart own row
own_apart row i j l m e = e

pub cents_nth : (xs : List Ranked) (r : ℕ) → cents_or_0 (slice_get xs r) ≡ at_rank (cents_of xs) r
cents_nth xs r =
    elim (cases_lt r (length xs)) [
      | inl l ↦ ap cents_or_0 (slice_get-get_or xs r nobody l) ∙ sym (cents_at xs r nobody l)
      | inr l ↦ ap cents_or_0 (slice_get_past xs r l) ∙ sym (get_or_past (cents_of xs) r 0 (omega (arith, length_cents xs)))
    ]

pub last_nth : (xs ys : List Ranked) (p : ℕ) →
    pair_of (cents_or_0 (nth_before xs p)) (cents_or_0 (nth_before ys p)) ≡ last_pair (cents_of xs) (cents_of ys) p
last_nth xs ys zero = refl
last_nth xs ys (suc n) =
    cc (cents_nth xs n, cents_nth ys n)

-- the two ways to tell the order of a tie
tie_same : (c d : ℕ) (i m r n : ℕ) → (c ≡ d → i < m → r < n) → (c ≡ d → i ≡ m → r ≡ n) → (c ≡ d → m < i → n < r) →
    cond (eqb c d) (cond (ltb i m) Before (cond (eqb i m) At After)) NoTie ≡ tie_word c r d (suc n)
tie_same c d i m r n low same high = grind (arith, nat_tests)

module _ (row : List Entry) (s : Side) (i : ℕ) (c : Cents) (h : number s row i ≡ Some c) where
  abbrev list : List Ranked
  list = ranked s own row

  abbrev place : ℕ
  place = rank s own row (standing i c)

  -- the member listed at a rank
  abbrev one : ℕ → Ranked
  one n = get_or list n nobody

  one_stands : (n : ℕ) → n < length list → number s row (one n).member ≡ Some (one n).cents
  one_stands n l = (All-get_or (InRow s row) list n nobody l (ranked_in_row s own row)).1

  rank_one : (n : ℕ) → n < length list → rank s own row (one n) ≡ n
  rank_one n l = rank_at s own row (own_apart row) n nobody l

  same_cents : (n : ℕ) → n < length list → c.0 ≡ (one n).cents.0 → number s row (one n).member ≡ Some c
  same_cents n l e = one_stands n l ∙ ap (λ k. Some (record { 0 = k })) (sym e)

  rank_same : (n : ℕ) → n < length list → c.0 ≡ (one n).cents.0 → rank s own row (standing (one n).member c) ≡ n
  rank_same n l e = ap (λ k. rank s own row (standing (one n).member (record { 0 = k }))) e ∙ rank_one n l

  pub tie_is : (p : ℕ) → 1 ≤ c.0 → p ≤ length list →
      tie_beside (standing i c) (nth_before list p) ≡ tie_word c.0 place (cents_or_0 (nth_before list p)) p
  tie_is zero hc l = sym (no_tie c.0 place 0 0 (λ e. omega arith))
  tie_is (suc n) hc l =
      let m : n < length list = omega arith in
      ap (tie_beside (standing i c)) (slice_get-get_or list n nobody m)
      ∙ tie_same c.0 (one n).cents.0 i (one n).member place n
      (λ e k. omega (arith, lower_member_first s row i (one n).member c h (same_cents n m e) k, rank_same n m e))
      (λ e k. ap (λ j. rank s own row (standing j c)) k ∙ rank_same n m e)
      (λ e k. omega (arith, lower_member_first s row (one n).member i c (same_cents n m e) h k, rank_same n m e))
      ∙ ap (λ o. tie_word c.0 place (cents_or_0 o) (suc n)) (sym (slice_get-get_or list n nobody m))

  pub price_is : (t : ℕ) (price : HalfCents) → t ≤ length list →
      price_beside s (standing i c) price (nth_before list t) ≡ cond (ltb place t) (Some price) None
  price_is zero price l = sym (ap (λ b. cond b (Some price) None) (le-ltb place 0 (omega arith)))
  price_is (suc n) price l =
      let m : n < length list = omega arith in
      let p = placed_at s own row (own_apart row) i c h nobody in
      ap (price_beside s (standing i c) price) (slice_get-get_or list n nobody m)
      ∙ elim (cases_Bool (before s own (one n) (standing i c))) [
        | inl b ↦
            let k = before_lower_rank s own row (own_apart row) (one n).member i (one n).cents c (one_stands n m) h b in
            ap (λ t. cond t None (Some price)) b
            ∙ sym (ap (λ t. cond t (Some price) None) (le-ltb place (suc n) (omega (arith, k, rank_one n m))))
        | inr b ↦
            let k : place ≤ n =
            elim (cases_lt n place) [
              | inr k ↦ k
              | inl k ↦
                  absurd (both_ways _ b
                  (subst (λ y. before s own (one n) y ≡ true) p.1
                  (ordered_at s own list n place nobody (ranked_ordered s own row (own_apart row)) k p.0)))
            ] in
            ap (λ t. cond t None (Some price)) b ∙ sym (ap (λ t. cond t (Some price) None) (lt-ltb place (suc n) (omega arith)))
      ]
