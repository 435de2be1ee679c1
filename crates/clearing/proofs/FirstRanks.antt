-- The pairs and the outcome are given by the first ranks, one past the pairs.
use Rattle.std.proofs.Common.{◌≡◌, ℕ, zero, suc, ◌+◌, ◌*◌, ◌<◌, ◌≤◌, min, ◌⊎◌, List, [], ◌∷◌, length, take, sym, refl, ap, ◌∙◌, inl, inr, arith}
use Rattle.std.proofs.lemmas.List.{get_or-take, length-take}
use Rattle.std.proofs.lemmas.Bool.{cases_lt}
use Rattle.clearing.specs.Rule.{at_rank, pairs, middle_at, settled, outcome_of}
use Rattle.clearing.specs.Statements.{OnlyTheFirst}
use Rattle.clearing.proofs.Pairing.{pairs_yes, pairs_no, pairs_no_bids, pairs_no_asks, middle_there, middle_missing}

pairs_take : (n : ℕ) (bs as' : List ℕ) → pairs (take n bs) (take n as') ≡ min n (pairs bs as')
pairs_take zero bs as' = omega (arith, pairs_no_bids [])
pairs_take (suc n) [] as' = omega (arith, pairs_no_bids (take (suc n) as'), pairs_no_bids as')
pairs_take (suc n) (b ∷ bs) [] = omega (arith, pairs_no_asks (b ∷ take n bs), pairs_no_asks (b ∷ bs))
pairs_take (suc n) (b ∷ bs) (a ∷ as') =
    let ih = pairs_take n bs as' in
    elim (cases_lt b a) [
      | inl h ↦ omega (arith, pairs_no b a (take n bs) (take n as') h, pairs_no b a bs as' h)
      | inr h ↦ omega (arith, pairs_yes b a (take n bs) (take n as') h, pairs_yes b a bs as' h)
    ]

middle_take : (n r : ℕ) (bs as' : List ℕ) → r < n → middle_at r (take n bs) (take n as') ≡ middle_at r bs as'
middle_take n r bs as' l =
    elim (cases_lt r (length bs)) [
      | inr h ↦ missing (inl h)
      | inl hb ↦ elim (cases_lt r (length as')) [
        | inr h ↦ missing (inr h)
        | inl ha ↦
            middle_there r (at_rank bs r + at_rank as' r) (take n bs) (take n as') (omega (arith, length-take n bs))
            (omega (arith, length-take n as')) (omega (arith, get_or-take n bs r 0 l, get_or-take n as' r 0 l))
            ∙ sym (middle_there r _ bs as' hb ha refl)
      ]
    ]
  where
    missing : (length bs ≤ r) ⊎ (length as' ≤ r) → middle_at r (take n bs) (take n as') ≡ middle_at r bs as'
    missing (inl h) =
        middle_missing r (take n bs) (take n as') (inl (omega (arith, length-take n bs))) ∙ sym (middle_missing r bs as' (inl h))
    missing (inr h) =
        middle_missing r (take n bs) (take n as') (inr (omega (arith, length-take n as'))) ∙ sym (middle_missing r bs as' (inr h))

outcome_take : (n p : ℕ) (bs as' : List ℕ) → p < n → outcome_of p (take n bs) (take n as') ≡ outcome_of p bs as'
outcome_take n zero bs as' l = refl
outcome_take n (suc last) bs as' l =
    let b = get_or-take n bs last 0 (omega arith) in
    let a = get_or-take n as' last 0 (omega arith) in
    ap (λ x. settled last (2 * x) (2 * at_rank (take n as') last) (middle_at (suc last) (take n bs) (take n as'))) b
    ∙ ap (λ x. settled last (2 * at_rank bs last) (2 * x) (middle_at (suc last) (take n bs) (take n as'))) a
    ∙ ap (settled last (2 * at_rank bs last) (2 * at_rank as' last)) (middle_take n (suc last) bs as' l)

pub only_the_first : OnlyTheFirst
only_the_first bs as' n l =
    let same : pairs (take n bs) (take n as') ≡ pairs bs as' = omega (arith, pairs_take n bs as') in
    (same, ap (λ p. outcome_of p (take n bs) (take n as')) same ∙ outcome_take n (pairs bs as') bs as' l)
