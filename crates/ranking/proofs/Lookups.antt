-- The steps of a way down a tree that changes nothing.
use Rattle.std.proofs.Common.{◌≡◌, ℕ, ◌+◌, ◌-◌, ◌<◌, ◌≤◌, Bool, true, false, eqb, ltb, List, Some, None, ap, ◌∙◌, arith}
use Rattle.std.proofs.lemmas.Bool.{cond_both, cond-true, cond-false, eq-eqb, ne_eqb, lt-ltb, le-ltb}
use Rattle.ranking.specs.declared.node.Node.{Node}
use Rattle.ranking.specs.declared.node.Hand.TheVariants.{Right}
use Rattle.ranking.specs.Tree.{Tree, leaf, node, size, at}
use Rattle.ranking.specs.Balance.{left_of, right_of, passed, picked}
use Rattle.ranking.specs.Slots.{size_at, Stands}
use Rattle.ranking.proofs.Reps.{open_rep, Opened, size_rep}
use Rattle.ranking.proofs.Walks.{none_rep}

pub passed_le : (q : ℕ → Bool) (t : Tree) → passed q t ≤ size t
unfolding passed
passed_le q leaf = omega arith
passed_le q (node l x r) =
    cond_both (q x) (size l + 1 + passed q r) (passed q l) (λ n. n ≤ size l + size r + 1)
    (λ e. omega (arith, passed_le q r)) (λ e. omega (arith, passed_le q l))

module _ {ns : List Node} {i : ℕ} {t : Tree} (p : Stands ns i t) where
  pub passed_none : i ≡ 65535 → (q : ℕ → Bool) → passed q t ≡ 0
  unfolding passed
  passed_none e q = ap (passed q) (none_rep ns i t p.rep e)

  pub picked_none : i ≡ 65535 → (k : ℕ) → picked k t ≡ None
  unfolding picked
  picked_none e k = ap (picked k) (none_rep ns i t p.rep e)

  module _ (some : i ≡ 65535 → ⊥) where
    top : Opened Right ns i t
    top = open_rep Right ns i t p.rep some

    pub passed_right : (q : ℕ → Bool) → q i ≡ true → passed q t ≡ size (left_of t) + 1 + passed q (right_of t)
    unfolding passed
    passed_right q e = ap (passed q) top.is ∙ cond-true (q i) _ _ e

    pub passed_left : (q : ℕ → Bool) → q i ≡ false → passed q t ≡ passed q (left_of t)
    unfolding passed
    passed_left q e = ap (passed q) top.is ∙ cond-false (q i) _ _ e

    pub picked_left : (k : ℕ) → k < size (left_of t) → picked k t ≡ picked k (left_of t)
    unfolding picked
    picked_left k lt = ap (picked k) top.is ∙ cond-true (ltb k (size (left_of t))) _ _ (lt-ltb _ _ lt)

    pub picked_here : (k : ℕ) → k ≡ size (left_of t) → picked k t ≡ Some i
    unfolding picked
    picked_here k e =
        ap (picked k) top.is
        ∙ cond-false (ltb k (size (left_of t))) _ _ (le-ltb _ _ (omega arith))
        ∙ cond-true (eqb k (size (left_of t))) _ _ (eq-eqb _ _ e)

    pub picked_right : (k : ℕ) → size (left_of t) < k → picked k t ≡ picked (k - (size (left_of t) + 1)) (right_of t)
    unfolding picked
    picked_right k lt =
        ap (picked k) top.is
        ∙ cond-false (ltb k (size (left_of t))) _ _ (le-ltb _ _ (omega arith))
        ∙ cond-false (eqb k (size (left_of t))) _ _ (ne_eqb _ _ (omega arith))

    pub look_size : size_at ns (at ns i).left ≡ size (left_of t)
    look_size = size_rep ns (at ns i).left (left_of t) top.inner
