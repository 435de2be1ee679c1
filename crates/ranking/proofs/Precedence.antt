-- The order of ranks on a side: of two different members one comes before the other, and before is transitive.
use Rattle.std.proofs.Common.{◌≡◌, ℕ, ◌+◌, ◌<◌, Bool, true, false, cond, not, eqb, List, [], ◌∷◌, map, count_by, filter, sym, refl, ap, ◌∙◌, inl, inr, arith}
use Rattle.std.proofs.lemmas.List.Sums.{sum_by-cons}
use Rattle.std.proofs.lemmas.Bool.{cases_Bool, cond-true, cond-false}
use Rattle.std.proofs.lemmas.Bool.Decides.{nat_tests}
use Rattle.ranking.specs.declared.node.Node.{Node}
use Rattle.ranking.specs.declared.ranked.Side.{Side}
use Rattle.ranking.specs.declared.ranked.Side.TheVariants.{Buyers, Sellers}
use Rattle.ranking.specs.declared.ranked.Ranked.{Ranked}
use Rattle.ranking.specs.Ranks.{before, own, insert}
use Rattle.ranking.specs.Keys.{ranked_at, ahead, Sorted}
use Rattle.ranking.specs.Tree.{at}
use Rattle.ranking.proofs.InOrder.{occurs}
use Rattle.ranking.proofs.Reps.{here_same}
use Rattle.ranking.proofs.Rows.{placed, without, sorted_alike}

pub before_trans : (s : Side) (x y z : Ranked) → before s own x y ≡ true → before s own y z ≡ true
    → before s own x z ≡ true
before_trans Buyers x y z p q = grind (arith, nat_tests)
before_trans Sellers x y z p q = grind (arith, nat_tests)

pub before_asym : (s : Side) (x y : Ranked) → before s own x y ≡ true → before s own y x ≡ true → ⊥
before_asym Buyers x y p q = grind (arith, nat_tests)
before_asym Sellers x y p q = grind (arith, nat_tests)

pub before_total : (s : Side) (x y : Ranked) → (y.member ≡ x.member → ⊥) → before s own x y ≡ false
    → before s own y x ≡ true
before_total Buyers x y d p = grind (arith, nat_tests)
before_total Sellers x y d p = grind (arith, nat_tests)

-- the lists of members with their numbers
module _ (s : Side) (ns : List Node) where
  pub map_placed : (m : ℕ) (xs : List ℕ)
      → map (ranked_at ns) (placed (ahead s ns m) m xs) ≡ insert s own (ranked_at ns m) (map (ranked_at ns) xs)
  unfolding insert
  map_placed m [] = refl
  map_placed m (x ∷ xs) =
      let r = map_placed m xs in
      elim (cases_Bool (ahead s ns m x)) [
        | inl e ↦ ap (map (ranked_at ns)) (cond-true (ahead s ns m x) (m ∷ x ∷ xs) (x ∷ placed (ahead s ns m) m xs) e)
            ∙ sym (cond-true (ahead s ns m x) _ _ e)
        | inr e ↦ ap (map (ranked_at ns)) (cond-false (ahead s ns m x) (m ∷ x ∷ xs) (x ∷ placed (ahead s ns m) m xs) e)
            ∙ ap (λ zs. ranked_at ns x ∷ zs) r ∙ sym (cond-false (ahead s ns m x) _ _ e)
      ]

  pub map_without : (m : ℕ) (xs : List ℕ)
      → map (ranked_at ns) (without m xs) ≡ filter (λ x. not (eqb x.member m)) (map (ranked_at ns) xs)
  map_without m [] = refl
  map_without m (x ∷ xs) =
      let r = map_without m xs in
      elim (cases_Bool (not (eqb x m))) [
        | inl e ↦ ap (map (ranked_at ns)) (cond-true (not (eqb x m)) (x ∷ without m xs) (without m xs) e)
            ∙ ap (λ zs. ranked_at ns x ∷ zs) r ∙ sym (cond-true (not (eqb x m)) _ _ e)
        | inr e ↦ ap (map (ranked_at ns)) (cond-false (not (eqb x m)) (x ∷ without m xs) (without m xs) e)
            ∙ r ∙ sym (cond-false (not (eqb x m)) _ _ e)
      ]

  pub map_count : (p : Ranked → Bool) (xs : List ℕ)
      → count_by (λ x. p (ranked_at ns x)) xs ≡ count_by p (map (ranked_at ns) xs)
  map_count p [] = refl
  map_count p (x ∷ xs) =
      sum_by-cons (λ y. cond (p (ranked_at ns y)) 1 0) x xs
      ∙ ap (λ n. cond (p (ranked_at ns x)) 1 0 + n) (map_count p xs)
      ∙ sym (sum_by-cons (λ y. cond (p y) 1 0) (ranked_at ns x) (map (ranked_at ns) xs))

-- two rows with the same cents for the members of a list
module _ (ns os : List Node) where
  abbrev pub Alike : List ℕ → Type 0
  Alike xs = (k : ℕ) → 0 < occurs k xs → (at os k).cents ≡ (at ns k).cents

  ranked_alike : (xs : List ℕ) → Alike xs → (k : ℕ) → 0 < occurs k xs → ranked_at os k ≡ ranked_at ns k
  ranked_alike xs same k p = ap (λ c. record { member = k; cents = c }) (same k p)

  pub ahead_alike : (s : Side) (xs : List ℕ) → Alike xs → Sorted (ahead s ns) xs → Sorted (ahead s os) xs
  ahead_alike s xs same h =
      sorted_alike (ahead s ns) (ahead s os) xs h
      (λ x y p q e. ap (λ w. before s own w (ranked_at os y)) (ranked_alike xs same x p)
      ∙ ap (λ w. before s own (ranked_at ns x) w) (ranked_alike xs same y q) ∙ e)

  pub map_alike : (xs : List ℕ) → Alike xs → map (ranked_at os) xs ≡ map (ranked_at ns) xs
  map_alike [] same = refl
  map_alike (x ∷ xs) same =
      ap (λ w. w ∷ map (ranked_at os) xs) (ranked_alike (x ∷ xs) same x (omega (arith, here_same x)))
      ∙ ap (λ ws. ranked_at ns x ∷ ws) (map_alike xs (λ k p. same k (omega arith)))
