-- Sums over the members of a side: by the row, and by its ranked list.
use Rattle.std.proofs.Common.{◌≡◌, ℕ, suc, ◌+◌, List, [], ◌∷◌, map, Some, None, sum_by, Option, sym, refl, ap, ◌∙◌, arith}
use Rattle.std.proofs.lemmas.List.Sums.{sum_by-cons}
use Rattle.orders.specs.declared.money.Cents.{Cents}
use Rattle.orders.specs.declared.entry.Entry.{Entry}
use Rattle.ranking.specs.declared.ranked.Side.{Side}
use Rattle.ranking.specs.declared.ranked.Ranked.{Ranked}
use Rattle.ranking.specs.Ranks.{insert, on_side, entered, ranked_from}
use Rattle.clearing.specs.Kind.{standing}
use Rattle.clearing.proofs.Placing.{insert_cases, insert_none}

-- what a member counts for, under any measure g
abbrev pub counted_as : (Ranked → ℕ) → ℕ → Option Cents → ℕ
counted_as g m None = 0
counted_as g m (Some c) = g (standing m c)

-- the sum over a row whose first entry is member m's
abbrev pub total_from : Side → (Ranked → ℕ) → ℕ → List Entry → ℕ
total_from s g m [] = 0
total_from s g m (e ∷ es) = counted_as g m (on_side s e) + total_from s g (suc m) es

module _ (s : Side) (tie : ℕ → ℕ) (g : Ranked → ℕ) where
  sum_insert : (x : Ranked) (ys : List Ranked) → sum_by g (insert s tie x ys) ≡ g x + sum_by g ys
  sum_insert x [] = ap (sum_by g) (insert_none s tie x) ∙ sum_by-cons g x []
  sum_insert x (y ∷ ys) =
      let ih = sum_insert x ys in
      insert_cases s tie x y ys (λ l. sum_by g l ≡ g x + sum_by g (y ∷ ys)) (λ h. sum_by-cons g x (y ∷ ys))
      (λ h. omega (arith, ih, sum_by-cons g y (insert s tie x ys), sum_by-cons g y ys))

  sum_entered : (m : ℕ) (o : Option Cents) (ys : List Ranked) → sum_by g (entered s tie m o ys) ≡ counted_as g m o + sum_by g ys
  sum_entered m None ys = omega arith
  sum_entered m (Some c) ys = sum_insert (standing m c) ys

  pub total_ranked : (m : ℕ) (es : List Entry) → total_from s g m es ≡ sum_by g (ranked_from s tie m es)
  unfolding ranked_from
  total_ranked m [] = refl
  total_ranked m (e ∷ es) =
      ap (λ n. counted_as g m (on_side s e) + n) (total_ranked (suc m) es)
      ∙ sym (sum_entered m (on_side s e) (ranked_from s tie (suc m) es))

-- a sum over a list's parts is the sum over the list of the parts
pub sum_parts : {X : Type 0} (f : ℕ → ℕ) (part : X → ℕ) (xs : List X) → sum_by (λ x. f (part x)) xs ≡ sum_by f (map part xs)
sum_parts f part [] = refl
sum_parts f part (x ∷ xs) =
    sum_by-cons (λ x. f (part x)) x xs ∙ ap (λ n. f (part x) + n) (sum_parts f part xs) ∙ sym (sum_by-cons f (part x) (map part xs))
