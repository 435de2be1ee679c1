-- Pairs, the fund, and who is left out.
use Rattle.std.proofs.Common.{◌≡◌, ℕ, suc, ◌+◌, ◌-◌, ◌*◌, ◌<◌, ◌≤◌, false, ◌⊎◌, List, length, Some, sym, ap, ◌∙◌, subst, inl, inr, mul-add, arith}
use Rattle.std.proofs.lemmas.Bool.{cases_lt, ltb-false}
use Rattle.orders.specs.declared.money.Cents.{Cents}
use Rattle.orders.specs.declared.entry.Entry.{Entry}
use Rattle.ranking.specs.declared.ranked.Side.{Side}
use Rattle.ranking.specs.declared.ranked.Side.TheVariants.{Buyers, Sellers}
use Rattle.ranking.specs.declared.ranked.Ranked.{Ranked}
use Rattle.ranking.specs.Ranks.{on_side, ranked}
use Rattle.clearing.specs.declared.outcome.Outcome.{Outcome}
use Rattle.clearing.specs.Rule.{cents_of, at_rank, pairs, cleared, trades_in, buyers_pay, sellers_get}
use Rattle.clearing.specs.Kind.{Apart, bids, asks, pairs_in, outcome, number, how_many, standing, rank, trades_with}
use Rattle.clearing.specs.Statements.{Pair, PairsFirst, FundNeverPays, AllButOne, LeastLeft, NoTwoLeft, LeftGainLeast}
use Rattle.clearing.proofs.Pairing.{cents_at, length_cents}
use Rattle.clearing.proofs.Critical.{Falling, Pairs, Serving}
use Rattle.clearing.proofs.Settling.{Settled, no_pair, all_pairs, only_pair, but_last, pairs_are, settles}
use Rattle.clearing.proofs.Rows.{ranked_falls}
use Rattle.clearing.proofs.Standing.{placed_at, length_ranked, ranks_of}

pub length_numbers : (s : Side) (tie : ℕ → ℕ) (row : List Entry) → length (cents_of (ranked s tie row)) ≡ how_many s row
length_numbers s tie row = length_cents (ranked s tie row) ∙ length_ranked s tie row

pub pairs_first : PairsFirst
pairs_first tie row r = (is_pair, no_gap)
  where
    ps : Pairs Buyers (bids tie row) (asks tie row) (pairs_in tie row)
    ps = pairs_are Buyers (bids tie row) (asks tie row)

    is_pair : r < pairs_in tie row → Pair tie row r
    is_pair h =
        record {
          buyer = omega (arith, length_numbers Buyers tie row, ps.own);
          seller = omega (arith, length_numbers Sellers tie row, ps.other);
          meet = ps.pair r h;
        }

    no_gap : Pair tie row r → r < pairs_in tie row
    no_gap g =
        let lb : r < length (bids tie row) = omega (arith, length_numbers Buyers tie row, g.buyer) in
        let la : r < length (asks tie row) = omega (arith, length_numbers Sellers tie row, g.seller) in
        elim (cases_lt r (pairs_in tie row)) [
          | inl h ↦ h
          | inr h ↦ absurd (ps.stop (omega arith) (omega arith)
              (omega (
                arith,
                g.meet,
                ranked_falls Buyers tie row (pairs_in tie row) r h lb,
                ranked_falls Sellers tie row (pairs_in tie row) r h la,
              )))
        ]

never_pays : (bs as' : List ℕ) (p : ℕ) (o : Outcome) → Pairs Buyers bs as' p → Settled bs as' p o → sellers_get o ≤ buyers_pay o
never_pays bs as' p o ps (no_pair e t b s) = omega arith
never_pays bs as' p o ps (all_pairs last e v t b s) = omega arith
never_pays bs as' p o ps (only_pair e v t b s) = omega arith
never_pays bs as' p o ps (but_last last l e v t b s) = omega (arith, ps.pair last (omega arith))

share : (t b s : ℕ) → s ≤ b → t * b ≡ t * s + t * (b - s)
share t b s h = let e : b ≡ s + (b - s) = omega arith in ap (λ n. t * n) e ∙ mul-add t s (b - s)

pub fund_never_pays : FundNeverPays
fund_never_pays bs as' =
    let h = never_pays bs as' (pairs bs as') (cleared bs as') (pairs_are Buyers bs as') (settles bs as') in
    record { spread = h; shared = share (trades_in (cleared bs as')) (buyers_pay (cleared bs as')) (sellers_get (cleared bs as')) h }

but_one : (bs as' : List ℕ) (p : ℕ) (o : Outcome) → Settled bs as' p o → (trades_in o ≡ p) ⊎ (trades_in o + 1 ≡ p)
but_one bs as' p o (no_pair e t b s) = inl (omega arith)
but_one bs as' p o (all_pairs last e v t b s) = inl (omega arith)
but_one bs as' p o (only_pair e v t b s) = inr (omega arith)
but_one bs as' p o (but_last last l e v t b s) = inr (omega arith)

pub all_but_one : AllButOne
all_but_one tie row = but_one _ _ _ _ (settles (bids tie row) (asks tie row))

pub least_left : LeastLeft
least_left tie row last r e l =
    let ps = pairs_are Buyers (bids tie row) (asks tie row) in
    omega (
      arith,
      ranked_falls Buyers tie row r last l (omega (arith, ps.own)),
      ranked_falls Sellers tie row r last l (omega (arith, ps.other)),
    )

-- over ranks: who is left
module _ (bs as' : List ℕ) (falls : Falling Buyers bs) (rises : Falling Sellers as') (p : ℕ) (ps : Pairs Buyers bs as' p) where
  past : (r q : ℕ) → p ≤ r → r < length bs → p ≤ q → q < length as' → at_rank as' q ≤ at_rank bs r → ⊥
  past r q hr lr hq lq g =
      ps.stop (omega arith) (omega arith) (omega (arith, falls p r hr lr, rises p q hq lq))

  crossed : (last r q : ℕ) → p ≡ suc last → (Serving Buyers bs as' last → ⊥) → suc last ≤ r → r < length bs → suc last ≤ q →
      q < length as' → at_rank as' last ≤ at_rank bs r → at_rank as' q ≤ at_rank bs last → ⊥
  crossed last r q e v hr lr hq lq g h =
      let b₁ = falls (suc last) r hr lr in
      let a₁ = rises (suc last) q hq lq in
      let b₂ = falls last (suc last) (omega arith) (omega arith) in
      let a₂ = rises last (suc last) (omega arith) (omega arith) in
      v (record { own = omega arith; other = omega arith; over = omega arith; under = omega arith })

  -- the two pairs are r with q and r' with q'
  two_left : (last r q r' q' : ℕ) → p ≡ suc last → (Serving Buyers bs as' last → ⊥) →
      last ≤ r → last ≤ q → last ≤ r' → last ≤ q' → r < length bs → q < length as' → r' < length bs → q' < length as' →
      (r ≡ r' → ⊥) → (q ≡ q' → ⊥) → at_rank as' q ≤ at_rank bs r → at_rank as' q' ≤ at_rank bs r' → ⊥
  two_left last r q r' q' e v hr hq hr' hq' lr lq lr' lq' dr dq g g' =
      elim (cases_lt last r) [
        | inl a ↦ elim (cases_lt last q) [
          | inl b ↦ past r q (omega arith) lr (omega arith) lq g
          | inr b ↦ elim (cases_lt last r') [
            | inl c ↦ past r' q' (omega arith) lr' (omega (arith, dq)) lq' g'
            | inr c ↦
                let x : q ≡ last = omega arith in
                let y : r' ≡ last = omega arith in
                crossed last r q' e v a lr (omega (arith, dq)) lq'
                (subst (λ n. at_rank as' n ≤ at_rank bs r) x g) (subst (λ n. at_rank as' q' ≤ at_rank bs n) y g')
          ]
        ]
        | inr a ↦ elim (cases_lt last q') [
          | inl b ↦ past r' q' (omega (arith, dr)) lr' (omega arith) lq' g'
          | inr b ↦
              let x : q' ≡ last = omega arith in
              let y : r ≡ last = omega arith in
              crossed last r' q e v (omega (arith, dr)) lr' (omega (arith, dq)) lq
              (subst (λ n. at_rank as' n ≤ at_rank bs r') x g') (subst (λ n. at_rank as' q ≤ at_rank bs n) y g)
        ]
      ]

  no_two : (o : Outcome) → Settled bs as' p o → (r q r' q' : ℕ) →
      trades_in o ≤ r → trades_in o ≤ q → trades_in o ≤ r' → trades_in o ≤ q' →
      r < length bs → q < length as' → r' < length bs → q' < length as' →
      (r ≡ r' → ⊥) → (q ≡ q' → ⊥) → at_rank as' q ≤ at_rank bs r → at_rank as' q' ≤ at_rank bs r' → ⊥
  no_two o (no_pair e t _ _) r q r' q' hr hq hr' hq' lr lq lr' lq' dr dq g g' = past r q (omega arith) lr (omega arith) lq g
  no_two o (all_pairs last e v t _ _) r q r' q' hr hq hr' hq' lr lq lr' lq' dr dq g g' =
      past r q (omega arith) lr (omega arith) lq g
  no_two o (only_pair e v t _ _) r q r' q' hr hq hr' hq' lr lq lr' lq' dr dq g g' =
      two_left 0 r q r' q' e v (omega arith) (omega arith) (omega arith) (omega arith) lr lq lr' lq' dr dq g g'
  no_two o (but_last last l e v t _ _) r q r' q' hr hq hr' hq' lr lq lr' lq' dr dq g g' =
      two_left last r q r' q' e v (omega arith) (omega arith) (omega arith) (omega arith) lr lq lr' lq' dr dq g g'

-- a member's number stands at its rank; one who does not trade has a rank past the trades
pub record AtRank (s : Side) (tie : ℕ → ℕ) (row : List Entry) (i : ℕ) (c : Cents) : Type 0 where
  pub within : rank s tie row (standing i c) < length (cents_of (ranked s tie row))
  pub there : at_rank (cents_of (ranked s tie row)) (rank s tie row (standing i c)) ≡ c.0
  pub left_out : trades_with s tie row i (number s row i) ≡ false → trades_in (outcome tie row) ≤ rank s tie row (standing i c)

pub at_its_rank : (s : Side) (tie : ℕ → ℕ) (row : List Entry) → Apart tie row → (i : ℕ) (c : Cents) → number s row i ≡ Some c →
    AtRank s tie row i c
at_its_rank s tie row a i c h =
    let p = placed_at s tie row a i c h (standing i c) in
    record {
      within = omega (arith, p.0, length_cents (ranked s tie row));
      there = cents_at (ranked s tie row) (rank s tie row (standing i c)) (standing i c) p.0 ∙ ap (λ (y : Ranked). y.cents.0) p.1;
      left_out = λ t. ltb-false _ _ (sym (ap (trades_with s tie row i) h) ∙ t);
    }

different_ranks : (s : Side) (tie : ℕ → ℕ) (row : List Entry) → Apart tie row → (i j : ℕ) (c d : Cents) → number s row i ≡ Some c →
    number s row j ≡ Some d → (i ≡ j → ⊥) → rank s tie row (standing i c) ≡ rank s tie row (standing j d) → ⊥
different_ranks s tie row a i j c d h k n e = n ((ranks_of s tie row a).one_each i j c d h k e)

pub no_two_left : NoTwoLeft
no_two_left tie row a i j i' j' b c b' c' eb ec eb' ec' ni nj ni' nj' di dj g g' =
    let hb : number Buyers row i ≡ Some b = ap (on_side Buyers) eb in
    let hc : number Sellers row j ≡ Some c = ap (on_side Sellers) ec in
    let hb' : number Buyers row i' ≡ Some b' = ap (on_side Buyers) eb' in
    let hc' : number Sellers row j' ≡ Some c' = ap (on_side Sellers) ec' in
    let r = at_its_rank Buyers tie row a i b hb in
    let q = at_its_rank Sellers tie row a j c hc in
    let r' = at_its_rank Buyers tie row a i' b' hb' in
    let q' = at_its_rank Sellers tie row a j' c' hc' in
    no_two (bids tie row) (asks tie row) (ranked_falls Buyers tie row) (ranked_falls Sellers tie row) (pairs_in tie row)
    (pairs_are Buyers (bids tie row) (asks tie row)) (outcome tie row) (settles (bids tie row) (asks tie row)) _ _ _ _
    (r.left_out ni) (q.left_out nj) (r'.left_out ni') (q'.left_out nj')
    r.within q.within r'.within q'.within
    (different_ranks Buyers tie row a i i' b b' hb hb' di) (different_ranks Sellers tie row a j j' c c' hc hc' dj)
    (omega (arith, r.there, q.there)) (omega (arith, r'.there, q'.there))

pub left_gain_least : LeftGainLeast
left_gain_least tie row a i j b c k eb ec ni nj l =
    let r = at_its_rank Buyers tie row a i b (ap (on_side Buyers) eb) in
    let q = at_its_rank Sellers tie row a j c (ap (on_side Sellers) ec) in
    omega (
      arith,
      r.there,
      q.there,
      ranked_falls Buyers tie row k (rank Buyers tie row (standing i b)) (omega (arith, r.left_out ni)) r.within,
      ranked_falls Sellers tie row k (rank Sellers tie row (standing j c)) (omega (arith, q.left_out nj)) q.within,
    )
