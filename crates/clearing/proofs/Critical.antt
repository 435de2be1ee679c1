-- The critical price. Others fixed, either a member never trades, or there is one price such that it trades only at that
-- price and with a number no worse than it, and trades whenever its number is better.
use Rattle.std.proofs.Common.{◌≡◌, ℕ, zero, suc, ◌+◌, ◌-◌, ◌*◌, ◌<◌, ◌≤◌, ◌⊎◌, List, length, sym, refl, ap, ◌∙◌, subst, inl, inr, arith}
use Rattle.std.proofs.lemmas.Bool.{cases_lt}
use Rattle.ranking.specs.declared.ranked.Side.{Side}
use Rattle.clearing.specs.Rule.{at_rank}
use Rattle.clearing.proofs.Sides.{Good, Better, good_same, good_refl, good_trans, good_double, good_from_better, better_not_good, good_or_better, good_past_mean, good_from_double}

-- own numbers go from good to bad, the other side's from bad to good
abbrev pub Falling : Side → List ℕ → Type 0
Falling s xs = (j k : ℕ) → j ≤ k → k < length xs → Good s (at_rank xs j) (at_rank xs k)

abbrev pub Rising : Side → List ℕ → Type 0
Rising s ys = (j k : ℕ) → j ≤ k → k < length ys → Good s (at_rank ys k) (at_rank ys j)

-- p is the number of pairs of own numbers xs with the other side's ys
pub record Pairs (s : Side) (xs ys : List ℕ) (p : ℕ) : Type 0 where
  pub own : p ≤ length xs
  pub other : p ≤ length ys
  pub pair : (k : ℕ) → k < p → Good s (at_rank xs k) (at_rank ys k)
  pub stop : p < length xs → p < length ys → Good s (at_rank xs p) (at_rank ys p) → ⊥

-- the price from the rank after the last pair's serves
pub record Serving (s : Side) (xs ys : List ℕ) (last : ℕ) : Type 0 where
  pub own : suc last < length xs
  pub other : suc last < length ys
  pub over : Good s (at_rank xs (suc last) + at_rank ys (suc last)) (2 * at_rank ys last)
  pub under : Good s (2 * at_rank xs last) (at_rank xs (suc last) + at_rank ys (suc last))

-- t trades at the own side's price π, by the rule
pub data Cleared (s : Side) (xs ys : List ℕ) (p t π : ℕ) : Type 0 where
  none : p ≡ 0 → t ≡ 0 → Cleared s xs ys p t π
  one_price : (last : ℕ) → p ≡ suc last → Serving s xs ys last → t ≡ suc last →
      π ≡ at_rank xs (suc last) + at_rank ys (suc last) → Cleared s xs ys p t π
  two_prices : (last : ℕ) → p ≡ suc last → (Serving s xs ys last → ⊥) → t ≡ last →
      (0 < last → π ≡ 2 * at_rank xs last) → Cleared s xs ys p t π

-- xs is the others' list cs with w put in at the place r
pub record Put (s : Side) (cs xs : List ℕ) (r w : ℕ) : Type 0 where
  pub size : length xs ≡ suc (length cs)
  pub room : r ≤ length cs
  pub low : (k : ℕ) → k < r → at_rank xs k ≡ at_rank cs k
  pub here : at_rank xs r ≡ w
  pub high : (k : ℕ) → r ≤ k → at_rank xs (suc k) ≡ at_rank cs k
  pub above : (k : ℕ) → k < r → Good s (at_rank cs k) w
  pub below : (k : ℕ) → r ≤ k → k < length cs → Good s w (at_rank cs k)

-- q is the number of pairs of the others with the other side's list but its first
pub record Shifted (s : Side) (cs ys : List ℕ) (q : ℕ) : Type 0 where
  pub own : q ≤ length cs
  pub other : q ≤ length ys - 1
  pub pair : (k : ℕ) → k < q → Good s (at_rank cs k) (at_rank ys (suc k))
  pub stop : q < length cs → suc q < length ys → Good s (at_rank cs q) (at_rank ys (suc q)) → ⊥

module _ (s : Side) (cs ys : List ℕ) (rises : Rising s ys) (q : ℕ) (sh : Shifted s cs ys q)
    (w r : ℕ) (xs : List ℕ) (put : Put s cs xs r w) (p : ℕ) (ps : Pairs s xs ys p) where
  own_at : r < p → Good s w (at_rank ys r)
  own_at h = good_same s (at_rank xs r) (at_rank ys r) w (at_rank ys r) (ps.pair r h) put.here refl

  -- a member among the pairs makes exactly one more of them
  not_more : r < p → p ≤ suc q
  not_more h =
      elim (cases_lt (suc q) p) [
        | inr l ↦ l
        | inl l ↦ absurd (sh.stop (omega (arith, put.size, ps.own)) (omega (arith, ps.other))
            (elim (cases_lt q r) [
              | inl b ↦ good_trans s (at_rank cs q) w (at_rank ys (suc q)) (put.above q b)
                  (good_trans s w (at_rank ys r) (at_rank ys (suc q)) (own_at h)
                  (rises (suc q) r (omega arith) (omega (arith, ps.other))))
              | inr b ↦ good_same s (at_rank xs (suc q)) (at_rank ys (suc q)) (at_rank cs q) (at_rank ys (suc q))
                  (ps.pair (suc q) l) (put.high q b) refl
            ]))
      ]

  not_less : r < p → suc q ≤ p
  not_less h =
      elim (cases_lt q p) [
        | inl l ↦ omega arith
        | inr l ↦ go p refl h l
      ]
    where
      go : (n : ℕ) → p ≡ n → r < n → n ≤ q → suc q ≤ p
      go zero e h l = absurd (omega arith)
      go (suc n) e h l =
          absurd (ps.stop (omega (arith, put.size, sh.own)) (omega (arith, sh.other))
          (good_same s (at_rank cs n) (at_rank ys (suc n)) (at_rank xs p) (at_rank ys p) (sh.pair n (omega arith))
          (sym (put.high n (omega arith)) ∙ ap (at_rank xs) (sym e)) (ap (at_rank ys) (sym e))))

  one_more : r < p → p ≡ suc q
  one_more h = omega (arith, not_more h, not_less h)

  -- where the member is among the pairs
  joins : r ≤ q → q < length ys → Good s w (at_rank ys r) → r < p
  joins b y g =
      elim (cases_lt r p) [
        | inl h ↦ h
        | inr l ↦ absurd (ps.stop (omega (arith, put.size, put.room)) (omega arith)
            (elim (cases_lt p r) [
              | inl a ↦ good_same s (at_rank cs p) (at_rank ys p) (at_rank xs p) (at_rank ys p)
                  (good_trans s (at_rank cs p) (at_rank ys (suc p)) (at_rank ys p) (sh.pair p (omega arith))
                  (rises p (suc p) (omega arith) (omega arith)))
                  (sym (put.low p a)) refl
              | inr a ↦ let e : p ≡ r = omega arith in
                  good_same s w (at_rank ys r) (at_rank xs p) (at_rank ys p) g
                  (sym put.here ∙ ap (at_rank xs) (sym e)) (ap (at_rank ys) (sym e))
            ]))
      ]

  joins_below : r < q → r < p
  joins_below b =
      joins (omega arith) (omega (arith, sh.other))
      (good_trans s w (at_rank cs r) (at_rank ys r) (put.below r (omega arith) (omega (arith, sh.own)))
      (good_trans s (at_rank cs r) (at_rank ys (suc r)) (at_rank ys r) (sh.pair r b)
      (rises r (suc r) (omega arith) (omega (arith, sh.other)))))

  -- the last pair's own number is the member's, or the one before the place q
  last_below : r < q → (n : ℕ) → q ≡ suc n → at_rank xs q ≡ at_rank cs n
  last_below b n e = ap (at_rank xs) e ∙ put.high n (omega arith)

  last_here : r ≡ q → at_rank xs q ≡ w
  last_here e = ap (at_rank xs) (sym e) ∙ put.here

  own_no_worse : r ≤ q → Good s w (at_rank xs q)
  own_no_worse b =
      elim (cases_lt r q) [
        | inl l ↦ go q refl l
        | inr l ↦ good_same s w w w (at_rank xs q) (good_refl s w) refl (sym (last_here (omega arith)))
      ]
    where
      go : (n : ℕ) → q ≡ n → r < n → Good s w (at_rank xs q)
      go zero e l = absurd (omega arith)
      go (suc n) e l =
          good_same s w (at_rank cs n) w (at_rank xs q) (put.below n (omega arith) (omega (arith, sh.own))) refl
          (sym (last_below (omega arith) n e))

  last_no_better : r ≤ q → (n : ℕ) → q ≡ suc n → Good s (at_rank cs n) (at_rank xs q)
  last_no_better b n e =
      elim (cases_lt r q) [
        | inl l ↦ good_same s (at_rank cs n) (at_rank cs n) (at_rank cs n) (at_rank xs q) (good_refl s (at_rank cs n)) refl
            (sym (last_below l n e))
        | inr l ↦ good_same s (at_rank cs n) w (at_rank cs n) (at_rank xs q) (put.above n (omega arith)) refl
            (sym (last_here (omega arith)))
      ]

-- Whether the price from the next serves, as the others alone decide it.
pub record Serves (s : Side) (cs ys : List ℕ) (q : ℕ) : Type 0 where
  pub own : q < length cs
  pub other : suc q < length ys
  pub over : Good s (at_rank cs q + at_rank ys (suc q)) (2 * at_rank ys q)
  pub under : (n : ℕ) → q ≡ suc n → Good s (2 * at_rank cs n) (at_rank cs q + at_rank ys (suc q))

serves_or_not : (s : Side) (cs ys : List ℕ) (q : ℕ) → Serves s cs ys q ⊎ (Serves s cs ys q → ⊥)
serves_or_not s cs ys q =
    elim (cases_lt q (length cs)) [
      | inr h ↦ inr (λ v. omega (arith, v.own))
      | inl h₁ ↦ elim (cases_lt (suc q) (length ys)) [
        | inr h ↦ inr (λ v. omega (arith, v.other))
        | inl h₂ ↦ elim (good_or_better s (at_rank cs q + at_rank ys (suc q)) (2 * at_rank ys q)) [
          | inr h ↦ inr (λ v. better_not_good s _ _ h v.over)
          | inl h₃ ↦ under q refl h₁ h₂ h₃
        ]
      ]
    ]
  where
    under : (m : ℕ) → q ≡ m → q < length cs → suc q < length ys →
        Good s (at_rank cs q + at_rank ys (suc q)) (2 * at_rank ys q) → Serves s cs ys q ⊎ (Serves s cs ys q → ⊥)
    under zero e h₁ h₂ h₃ =
        inl (record { own = h₁; other = h₂; over = h₃; under = λ n f. absurd (omega arith) })
    under (suc m) e h₁ h₂ h₃ =
        elim (good_or_better s (2 * at_rank cs m) (at_rank cs q + at_rank ys (suc q))) [
          | inl g ↦ inl (record {
            own = h₁;
            other = h₂;
            over = h₃;
            under = λ n f.
                let i : m ≡ n = omega arith in subst (λ k. Good s (2 * at_rank cs k) (at_rank cs q + at_rank ys (suc q))) i g;
          })
          | inr b ↦ inr (λ v. better_not_good s _ _ b (v.under m e))
        ]

-- The member writes w, and is at the place r of its side; there are p pairs and t trades, at the price π for its side.
pub record Case (s : Side) (cs ys : List ℕ) : Type 0 where
  pub w : ℕ
  pub r : ℕ
  pub xs : List ℕ
  pub p : ℕ
  pub t : ℕ
  pub π : ℕ
  pub put : Put s cs xs r w
  pub pairs : Pairs s xs ys p
  pub cleared : Cleared s xs ys p t π

abbrev pub Never : (s : Side) (cs ys : List ℕ) → Type 0
Never s cs ys = (c : Case s cs ys) → c.r < c.t → ⊥

abbrev pub Critical : (s : Side) (cs ys : List ℕ) → ℕ → Type 0
Critical s cs ys θ =
    (c : Case s cs ys) → (c.r < c.t → (c.π ≡ θ) × Good s (2 * c.w) θ) × (Better s (2 * c.w) θ → c.r < c.t)

module _ (s : Side) (cs ys : List ℕ) (rises : Rising s ys) (q : ℕ) (sh : Shifted s cs ys q) where
  -- the price from the next in the member's own list, where it is among the first q + 1
  next_same : (c : Case s cs ys) → c.r ≤ q →
      at_rank c.xs (suc q) + at_rank ys (suc q) ≡ at_rank cs q + at_rank ys (suc q)
  next_same c b = ap (λ n. n + at_rank ys (suc q)) (c.put.high q b)

  same_pairs : (c : Case s cs ys) → c.r < c.p → c.p ≡ suc q
  same_pairs c h = one_more s cs ys rises q sh c.w c.r c.xs c.put c.p c.pairs h

  among : (c : Case s cs ys) → c.r < q → c.r < c.p
  among c h = joins_below s cs ys rises q sh c.w c.r c.xs c.put c.p c.pairs h

  -- serving is decided by the others alone
  serves_from : (c : Case s cs ys) → c.r ≤ q → Serving s c.xs ys q → Serves s cs ys q
  serves_from c b v =
      record {
        own = omega (arith, v.own, c.put.size);
        other = v.other;
        over = good_same s _ _ _ _ v.over (next_same c b) refl;
        under = λ n e. good_same s _ _ _ _
            (good_trans s (2 * at_rank cs n) (2 * at_rank c.xs q) _
            (good_double s _ _ (last_no_better s cs ys rises q sh c.w c.r c.xs c.put c.p c.pairs b n e)) v.under)
            refl (next_same c b);
      }

  serving_from : (c : Case s cs ys) → c.r ≤ q → Serves s cs ys q →
      Good s (2 * at_rank c.xs q) (at_rank cs q + at_rank ys (suc q)) → Serving s c.xs ys q
  serving_from c b v g =
      record {
        own = omega (arith, v.own, c.put.size);
        other = v.other;
        over = good_same s _ _ _ _ v.over (sym (next_same c b)) refl;
        under = good_same s _ _ _ _ g refl (sym (next_same c b));
      }

  -- below the place q the last pair's own number is another's
  serving_below : (c : Case s cs ys) → c.r < q → Serves s cs ys q → Serving s c.xs ys q
  serving_below c b v = go q refl b
    where
      go : (n : ℕ) → q ≡ n → c.r < n → Serving s c.xs ys q
      go zero e l = absurd (omega arith)
      go (suc n) e l =
          serving_from c (omega arith) v
          (good_same s _ _ _ _ (v.under n e)
          (ap (λ x. 2 * x) (sym (last_below s cs ys rises q sh c.w c.r c.xs c.put c.p c.pairs b n e))) refl)

  -- where the price from the next serves, it is the critical price
  at_next : Serves s cs ys q → Critical s cs ys (at_rank cs q + at_rank ys (suc q))
  at_next v c = (only c.cleared, λ b. when b c.cleared)
    where
      good_own : c.r ≤ q → Serving s c.xs ys q → Good s (2 * c.w) (at_rank cs q + at_rank ys (suc q))
      good_own b z =
          good_same s _ _ _ _
          (good_trans s (2 * c.w) (2 * at_rank c.xs q) _
          (good_double s _ _ (own_no_worse s cs ys rises q sh c.w c.r c.xs c.put c.p c.pairs b)) z.under)
          refl (next_same c b)

      only : Cleared s c.xs ys c.p c.t c.π → c.r < c.t →
          (c.π ≡ at_rank cs q + at_rank ys (suc q)) × Good s (2 * c.w) (at_rank cs q + at_rank ys (suc q))
      only (none e f) h = absurd (omega arith)
      only (one_price last e z f g) h =
          let i : last ≡ q = omega (arith, same_pairs c (omega arith)) in
          let b : c.r ≤ q = omega arith in (
            g ∙ ap (λ n. at_rank c.xs (suc n) + at_rank ys (suc n)) i ∙ next_same c b,
            good_own b (subst (λ n. Serving s c.xs ys n) i z),
          )
      only (two_prices last e z f g) h =
          let i : last ≡ q = omega (arith, same_pairs c (omega arith)) in
          absurd (z (subst (λ n. Serving s c.xs ys n) (sym i) (serving_below c (omega arith) v)))

      place : Better s (2 * c.w) (at_rank cs q + at_rank ys (suc q)) → c.r ≤ q
      place b =
          elim (cases_lt q c.r) [
            | inr l ↦ l
            | inl l ↦ absurd (sh.stop v.own v.other
                (good_past_mean s c.w (at_rank cs q) (at_rank ys (suc q)) b (c.put.above q l)))
          ]

      in_pairs : Better s (2 * c.w) (at_rank cs q + at_rank ys (suc q)) → c.r < c.p
      in_pairs b =
          elim (cases_lt c.r q) [
            | inl l ↦ among c l
            | inr l ↦
                let i : c.r ≡ q = omega (arith, place b) in
                joins s cs ys rises q sh c.w c.r c.xs c.put c.p c.pairs (place b) (omega (arith, v.other))
                (good_same s _ _ _ _ (good_from_double s c.w _ (at_rank ys q) b v.over) refl (ap (at_rank ys) (sym i)))
          ]

      serving : Better s (2 * c.w) (at_rank cs q + at_rank ys (suc q)) → Serving s c.xs ys q
      serving b =
          elim (cases_lt c.r q) [
            | inl l ↦ serving_below c l v
            | inr l ↦ serving_from c (place b) v
                (good_same s _ _ _ _ (good_from_better s _ _ b)
                (ap (λ x. 2 * x) (sym (last_here s cs ys rises q sh c.w c.r c.xs c.put c.p c.pairs
                (omega (arith, place b))))) refl)
          ]

      when : Better s (2 * c.w) (at_rank cs q + at_rank ys (suc q)) → Cleared s c.xs ys c.p c.t c.π → c.r < c.t
      when b (none e f) = absurd (omega (arith, in_pairs b))
      when b (one_price last e z f g) = omega (arith, in_pairs b)
      when b (two_prices last e z f g) =
          let i : last ≡ q = omega (arith, same_pairs c (in_pairs b)) in
          absurd (z (subst (λ n. Serving s c.xs ys n) (sym i) (serving b)))

  -- elsewhere it is the last number before the place q
  at_last : (Serves s cs ys q → ⊥) → (n : ℕ) → q ≡ suc n → Critical s cs ys (2 * at_rank cs n)
  at_last v n eq c = (only c.cleared, λ b. when b c.cleared)
    where
      only : Cleared s c.xs ys c.p c.t c.π → c.r < c.t →
          (c.π ≡ 2 * at_rank cs n) × Good s (2 * c.w) (2 * at_rank cs n)
      only (none e f) h = absurd (omega arith)
      only (one_price last e z f g) h =
          let i : last ≡ q = omega (arith, same_pairs c (omega arith)) in
          absurd (v (serves_from c (omega arith) (subst (λ n. Serving s c.xs ys n) i z)))
      only (two_prices last e z f g) h =
          let i : last ≡ q = omega (arith, same_pairs c (omega arith)) in (
            g (omega arith) ∙ ap (λ m. 2 * at_rank c.xs m) i
                ∙ ap (λ x. 2 * x) (last_below s cs ys rises q sh c.w c.r c.xs c.put c.p c.pairs (omega arith) n eq),
            good_double s _ _ (c.put.below n (omega arith) (omega (arith, sh.own))),
          )

      place : Better s (2 * c.w) (2 * at_rank cs n) → c.r < q
      place b =
          elim (cases_lt c.r q) [
            | inl l ↦ l
            | inr l ↦ absurd (better_not_good s _ _ b (good_double s _ _ (c.put.above n (omega arith))))
          ]

      when : Better s (2 * c.w) (2 * at_rank cs n) → Cleared s c.xs ys c.p c.t c.π → c.r < c.t
      when b (none e f) = absurd (omega (arith, among c (place b)))
      when b (one_price last e z f g) = omega (arith, place b, among c (place b))
      when b (two_prices last e z f g) = omega (arith, place b, same_pairs c (among c (place b)))

  -- and where there is none such, the member never trades
  never : (Serves s cs ys q → ⊥) → q ≡ 0 → Never s cs ys
  never v eq c h = go c.cleared
    where
      go : Cleared s c.xs ys c.p c.t c.π → ⊥
      go (none e f) = omega arith
      go (one_price last e z f g) =
          let i : last ≡ q = omega (arith, same_pairs c (omega arith)) in
          v (serves_from c (omega arith) (subst (λ n. Serving s c.xs ys n) i z))
      go (two_prices last e z f g) = omega (arith, same_pairs c (omega arith))

  pub critical_price : Never s cs ys ⊎ ((θ : ℕ) × Critical s cs ys θ)
  critical_price =
      elim (serves_or_not s cs ys q) [
        | inl v ↦ inr (at_rank cs q + at_rank ys (suc q), at_next v)
        | inr v ↦ go q refl v
      ]
    where
      go : (n : ℕ) → q ≡ n → (Serves s cs ys q → ⊥) → Never s cs ys ⊎ ((θ : ℕ) × Critical s cs ys θ)
      go zero e v = inl (never v e)
      go (suc n) e v = inr (2 * at_rank cs n, at_last v n e)
