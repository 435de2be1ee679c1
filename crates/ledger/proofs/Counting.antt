-- The ranks in front that have a pair, as an index tells who has a rank, are the pairs of a kind.
use Rattle.std.proofs.Common.{◌≡◌, ℕ, zero, suc, ◌+◌, min, cond, leb, List, [], ◌∷◌, length, refl, ap, ◌∙◌, ap₂, add-one, one-add, arith}
use Rattle.std.specs.List.{slice_get, range_with_len, prefix_len}
use Rattle.ranking.specs.declared.ranked.Ranked.{Ranked}
use Rattle.clearing.specs.Rule.{cents_of, pairs}
use Rattle.ledger.specs.Pairs.{are_pair}

-- how many of n ranks from a on have a pair before there is one without
abbrev pub front : List Ranked → List Ranked → ℕ → ℕ → ℕ
front bs ss a n = prefix_len (λ r. are_pair (slice_get bs r) (slice_get ss r)) (range_with_len a n)

-- the ranks after the first are those of the lists without it
front_shift : (bs ss : List Ranked) (b s : Ranked) (n a : ℕ) → front (b ∷ bs) (s ∷ ss) (a + 1) n ≡ front bs ss a n
front_shift bs ss b s zero a = refl
front_shift bs ss b s (suc n) a =
    ap₂ (λ t m. cond t (1 + m) 0)
    (ap (λ r. are_pair (slice_get (b ∷ bs) r) (slice_get (s ∷ ss) r)) (add-one a))
    (front_shift bs ss b s n (a + 1))

pub pairs_in_front : (bs ss : List Ranked) (both : ℕ) → both ≡ min (length bs) (length ss) → front bs ss 0 both ≡ pairs (cents_of bs) (cents_of ss)
unfolding pairs
pairs_in_front [] ss both e = let none : both ≡ 0 = omega arith in ap (front [] ss 0) none
pairs_in_front (b ∷ bs) [] both e = let none : both ≡ 0 = omega arith in ap (front (b ∷ bs) [] 0) none
pairs_in_front (b ∷ bs) (s ∷ ss) both e =
    let more : both ≡ suc (min (length bs) (length ss)) = omega arith in
    ap (front (b ∷ bs) (s ∷ ss) 0) more
    ∙ ap (λ n. cond (leb s.cents.0 b.cents.0) n 0)
    (ap (λ n. 1 + n) (front_shift bs ss b s (min (length bs) (length ss)) 0 ∙ pairs_in_front bs ss (min (length bs) (length ss)) refl)
    ∙ one-add (pairs (cents_of bs) (cents_of ss)))
