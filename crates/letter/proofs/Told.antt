-- Every letter of every evening follows: what the ranked lists of a kind give is what the four numbers and the tie give.
use Rattle.std.proofs.Common.{◌≡◌, ℕ, zero, suc, ◌+◌, ◌*◌, ◌<◌, ◌≤◌, Bool, true, false, cond, ltb, List, length, Some, None, Option, sym, refl, ap, ◌∙◌, subst, inl, inr, arith}
use Rattle.std.proofs.lemmas.List.{get_or_past}
use Rattle.std.proofs.lemmas.Bool.{cases_lt, cases_order, cases_Bool, lt-ltb, le-ltb, ltb-true, and_from, both_ways}
use Rattle.orders.specs.declared.money.HalfCents.{HalfCents}
use Rattle.orders.specs.Range.{in_range}
use Rattle.ranking.specs.declared.ranked.Side.{Side}
use Rattle.ranking.specs.declared.ranked.Side.TheVariants.{Buyers, Sellers}
use Rattle.clearing.specs.Rule.{at_rank, half_cents}
use Rattle.clearing.proofs.Sides.{other, Good, good_or_better, good_same}
use Rattle.clearing.proofs.Critical.{Falling, Pairs, Serving, Cleared, none, one_price, two_prices}
use Rattle.letter.specs.declared.line.Pair.{Pair}
use Rattle.letter.specs.Following.{of_side, possible, tie_holds, trades, served, price_of, due, can_stand}
use Rattle.letter.specs.Letters.{tie_word}
use Rattle.letter.proofs.Positions.{least, sided, AfterIt, NoPair, OrNone, possible_first, possible_after, serves_next, next_serves, Stands, stands_alone, stands_before, stands_at, stands_after, price_served, price_unserved}

-- the numbers of a list are in range
abbrev pub Ranged : List ℕ → Type 0
Ranged xs = (k : ℕ) → k < length xs → in_range (at_rank xs k) ≡ true

-- own list, other list, the member's rank and number
pub record Lists (s : Side) (xs ys : List ℕ) (r c : ℕ) : Type 0 where
  pub own_falls : Falling s xs
  pub other_falls : Falling (other s) ys
  pub own_ranged : Ranged xs
  pub other_ranged : Ranged ys
  pub placed : r < length xs
  pub number : at_rank xs r ≡ c

-- what stands at a rank, or that nothing does
or_none : (xs : List ℕ) (k : ℕ) → Ranged xs → OrNone (at_rank xs k)
or_none xs k h = elim (cases_lt k (length xs)) [ inl l ↦ inr (h k l) | inr l ↦ inl (get_or_past xs k 0 l) ]

there_at : (xs : List ℕ) (k : ℕ) → 1 ≤ at_rank xs k → k < length xs
there_at xs k h = elim (cases_lt k (length xs)) [ inl l ↦ l | inr l ↦ absurd (omega (arith, get_or_past xs k 0 l)) ]

after_it : (s : Side) (xs : List ℕ) (n : ℕ) → Falling s xs → Ranged xs → AfterIt s (at_rank xs n) (at_rank xs (suc n))
after_it s xs n f h =
    elim (cases_lt (suc n) (length xs))
    [ inl l ↦ inr (h (suc n) l, f n (suc n) (omega arith) l) | inr l ↦ inl (get_or_past xs (suc n) 0 l) ]

no_pair_at : (s : Side) (xs ys : List ℕ) (p : ℕ) → Pairs s xs ys p → NoPair s (at_rank xs p) (at_rank ys p)
no_pair_at s xs ys p h =
    elim (cases_lt p (length xs)) [
      | inr l ↦ inl (get_or_past xs p 0 l)
      | inl l ↦ elim (cases_lt p (length ys)) [
        | inr m ↦ inr (inl (get_or_past ys p 0 m))
        | inl m ↦ elim (good_or_better s (at_rank xs p) (at_rank ys p)) [ inl g ↦ absurd (h.stop l m g) | inr b ↦ inr (inr b) ]
      ]
    ]

-- the price from the next numbers serves by the lists if and only if it does by the numbers
module _ (s : Side) (xs ys : List ℕ) (n : ℕ) where
  abbrev last : Pair
  last = sided s (at_rank xs n) (at_rank ys n)

  abbrev next : Pair
  next = sided s (at_rank xs (suc n)) (at_rank ys (suc n))

  serving_served : Ranged xs → Ranged ys → Serving s xs ys n → served last next ≡ true
  serving_served hx hy v =
      serves_next s _ _ _ _ (least _ (hx (suc n) v.own)) (least _ (hy (suc n) v.other)) v.over v.under

  not_serving : (Serving s xs ys n → ⊥) → served last next ≡ false
  not_serving v =
      elim (cases_Bool (served last next)) [
        | inr h ↦ h
        | inl h ↦
            let q = next_serves s _ _ _ _ h in
            absurd (v (record { own = there_at xs (suc n) q.own; other = there_at ys (suc n) q.other; over = q.over; under = q.under }))
      ]

-- the last pair of so many, by sides
abbrev pub last_by : Side → List ℕ → List ℕ → ℕ → Pair
last_by s xs ys zero = sided s 0 0
last_by s xs ys (suc n) = sided s (at_rank xs n) (at_rank ys n)

abbrev pub next_by : Side → List ℕ → List ℕ → ℕ → Pair
next_by s xs ys p = sided s (at_rank xs p) (at_rank ys p)

-- what a line has to say, of a member of rank r among the pairs p, with t trades at the price π
abbrev pub Said : Side → List ℕ → List ℕ → ℕ → ℕ → ℕ → ℕ → ℕ → Pair → Pair → Type 0
Said s xs ys r c p t π last next =
    (can_stand s c last next (tie_word c r (of_side s last) p) ≡ true)
    × (due s c last next (tie_word c r (of_side s last) p) ≡ cond (ltb r t) (Some (half_cents π)) None)

due_is : (b b' : Bool) (n n' : ℕ) → b ≡ b' → (b' ≡ true → n ≡ n') →
    ◌≡◌ {A = Option HalfCents} (cond b (Some (half_cents n)) None) (cond b' (Some (half_cents n')) None)
due_is b true n n' e h = ap (λ t. cond t (Some (half_cents n)) None) e ∙ ap (λ m. Some (half_cents m)) (h refl)
due_is b false n n' e h = ap (λ t. cond t (Some (half_cents n)) None) e

side_own : (s : Side) (x y : ℕ) → of_side s (sided s x y) ≡ x
side_own Buyers x y = refl
side_own Sellers x y = refl

-- with a tie word that is given by the own number
said : (s : Side) (xs ys : List ℕ) (r c p t π L P N Q : ℕ) (b : Bool) → in_range c ≡ true →
    possible (sided s L P) (sided s N Q) ≡ true → Stands s c (sided s L P) (sided s N Q) (tie_word c r L p) b →
    b ≡ ltb r t → (ltb r t ≡ true → price_of s (sided s L P) (sided s N Q) ≡ π) →
    Said s xs ys r c p t π (sided s L P) (sided s N Q)
said s xs ys r c p t π L P N Q b hc hp hs e h =
    let w = ap (λ x. tie_word c r x p) (side_own s L P) in (
      and_from _ _ hc (and_from _ _ hp (ap (tie_holds s c (sided s L P) (sided s N Q)) w ∙ hs.0)),
      due_is _ _ _ _ (ap (trades s c (sided s L P) (sided s N Q)) w ∙ hs.1 ∙ e) h,
    )

module _ (s : Side) (xs ys : List ℕ) (r c : ℕ) (ls : Lists s xs ys r c) where
  own_in_range : in_range c ≡ true
  own_in_range = ap in_range (sym ls.number) ∙ ls.own_ranged r ls.placed

  good_own : (k : ℕ) → k ≤ r → Good s (at_rank xs k) c
  good_own k l = good_same s _ _ _ _ (ls.own_falls k r l ls.placed) refl ls.number

  own_good : (k : ℕ) → r ≤ k → k < length xs → Good s c (at_rank xs k)
  own_good k l m = good_same s _ _ _ _ (ls.own_falls r k l m) ls.number refl

  -- without a pair
  said_alone : (π : ℕ) → Pairs s xs ys 0 → Said s xs ys r c 0 0 π (sided s 0 0) (sided s (at_rank xs 0) (at_rank ys 0))
  said_alone π h =
      said s xs ys r c 0 0 π 0 0 (at_rank xs 0) (at_rank ys 0) false own_in_range
      (possible_first s _ _ (or_none xs 0 ls.own_ranged) (or_none ys 0 ls.other_ranged) (no_pair_at s xs ys 0 h))
      (stands_alone s c r _ _ (least c own_in_range)
      (least _ (ls.own_ranged 0 (omega (arith, ls.placed)))) (good_own 0 (omega arith)))
      (sym (le-ltb r 0 (omega arith))) (λ f. absurd (both_ways _ (le-ltb r 0 (omega arith)) f))

  -- with a last pair
  module _ (n : ℕ) (h : Pairs s xs ys (suc n)) where
    in_own : n < length xs
    in_own = omega (arith, h.own)

    possible_here : possible (last s xs ys n) (next s xs ys n) ≡ true
    possible_here =
        possible_after s _ _ _ _ (ls.own_ranged n in_own) (ls.other_ranged n (omega (arith, h.other))) (h.pair n (omega arith))
        (after_it s xs n ls.own_falls ls.own_ranged) (after_it (other s) ys n ls.other_falls ls.other_ranged)
        (no_pair_at s xs ys (suc n) h)

    next_in : n < r → suc n < length xs
    next_in l = omega (arith, ls.placed)

    stands_here : (t : ℕ) → (r < n → r < t) → (n < r → t ≤ r) → (r ≡ n → served (last s xs ys n) (next s xs ys n) ≡ ltb r t) →
        Stands s c (last s xs ys n) (next s xs ys n) (tie_word c r (at_rank xs n) (suc n)) (ltb r t)
    stands_here t low high at =
        let L = at_rank xs n in
        let P = at_rank ys n in
        let N = at_rank xs (suc n) in
        let Q = at_rank ys (suc n) in
        elim (cases_order r n) [
          | inl e ↦
              let w = stands_at s c n L P N Q (sym ls.number ∙ ap (at_rank xs) e) in
              (cc (w.0, e), cc (w.1, e, at e))
          | inr o ↦ elim o [
            | inl l ↦
                let w = stands_before s c r n L P N Q l (least L (ls.own_ranged n in_own)) (own_good n (omega arith) in_own) in
                (w.0, w.1 ∙ sym (lt-ltb r t (low l)))
            | inr l ↦
                let w =
                stands_after s c r n L P N Q l (least N (ls.own_ranged (suc n) (next_in l)))
                (ls.own_falls n (suc n) (omega arith) (next_in l)) (good_own (suc n) (omega arith)) in
                (w.0, w.1 ∙ sym (le-ltb r t (high l)))
          ]
        ]

    said_one_price : Serving s xs ys n → Said s xs ys r c (suc n) (suc n) (at_rank xs (suc n) + at_rank ys (suc n)) (last s xs ys n) (next s xs ys n)
    said_one_price v =
        let sv = serving_served s xs ys n ls.own_ranged ls.other_ranged v in
        said s xs ys r c (suc n) (suc n) _ _ _ _ _ _ own_in_range possible_here
        (stands_here (suc n) (λ l. omega arith) (λ l. omega arith) (λ e. sv ∙ sym (lt-ltb r (suc n) (omega arith))))
        refl (λ _. price_served s _ _ _ _ sv)

    said_two_prices : (π : ℕ) → (Serving s xs ys n → ⊥) → (0 < n → π ≡ 2 * at_rank xs n) →
        Said s xs ys r c (suc n) n π (last s xs ys n) (next s xs ys n)
    said_two_prices π v e =
        let sv = not_serving s xs ys n v in
        said s xs ys r c (suc n) n π _ _ _ _ _ own_in_range possible_here
        (stands_here n (λ l. l) (λ l. omega arith) (λ f. sv ∙ sym (le-ltb r n (omega arith))))
        refl (λ f. price_unserved s _ _ _ _ sv ∙ sym (e (omega (arith, ltb-true r n f))))

  pub said_cleared : (p t π : ℕ) → Pairs s xs ys p → Cleared s xs ys p t π → Said s xs ys r c p t π (last_by s xs ys p) (next_by s xs ys p)
  said_cleared p t π h (none e f) =
      let w = said_alone π (subst (Pairs s xs ys) e h) in
      (cc (w.0, e), cc (w.1, e, f))
  said_cleared p t π h (one_price n e v f g) =
      let w = said_one_price n (subst (Pairs s xs ys) e h) v in
      (cc (w.0, e), cc (w.1, e, f, g))
  said_cleared p t π h (two_prices n e v f g) =
      let w = said_two_prices n (subst (Pairs s xs ys) e h) π v g in
      (cc (w.0, e), cc (w.1, e, f))
