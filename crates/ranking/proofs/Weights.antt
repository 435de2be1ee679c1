-- The trees that the code makes are balanced, and a balanced tree is not deep.
use Rattle.std.proofs.Common.{◌≡◌, ℕ, ◌+◌, ◌*◌, ◌<◌, ◌≤◌, Bool, cond, eqb, ltb, arith}
use Rattle.std.proofs.lemmas.Bool.{cond_both, ltb-true, ltb-false}
use Rattle.ranking.specs.declared.node.Hand.{Hand}
use Rattle.ranking.specs.declared.node.Hand.TheVariants.{Left, Right}
use Rattle.ranking.specs.Tree.{Tree, leaf, node, size}
use Rattle.ranking.specs.Balance.{weight, Balanced, fork, inner_of, outer_of, top_of, single, double, lifted, balanced, grown, first_of, rest_of, glued, shrunk}
use Rattle.ranking.proofs.Reps.{size_fork}
use Rattle.ranking.proofs.InOrder.{size_grown, size_rest, size_shrunk}

balanced_fork : (h : Hand) (t : Tree) (m : ℕ) (u : Tree) → weight t ≤ 3 * weight u → weight u ≤ 3 * weight t
    → Balanced t → Balanced u → Balanced (fork h t m u)
balanced_fork Left t m u p q bt bu = (q, p, bu, bt)
balanced_fork Right t m u p q bt bu = (p, q, bt, bu)

record Evened (h : Hand) (t : Tree) : Type 0 where
  in_out : weight (inner_of h t) ≤ 3 * weight (outer_of h t)
  out_in : weight (outer_of h t) ≤ 3 * weight (inner_of h t)
  inner : Balanced (inner_of h t)
  outer : Balanced (outer_of h t)
  size_is : size t ≡ size (inner_of h t) + size (outer_of h t) + 1

evened : (h : Hand) (t : Tree) → 0 < size t → Balanced t → Evened h t
evened h leaf p b = absurd (omega arith)
evened Left (node l m r) p b = record { in_out = b.1; out_in = b.0; inner = b.3; outer = b.2; size_is = omega arith }
evened Right (node l m r) p b = record { in_out = b.0; out_in = b.1; inner = b.2; outer = b.3; size_is = omega arith }

balanced_single : (h : Hand) (near : Tree) (m : ℕ) (far : Tree) → Balanced near → Evened h far
    → 3 * weight near < weight far → weight far ≤ 3 * weight near + 3
    → weight (inner_of h far) < 2 * weight (outer_of h far) → Balanced (single h near m far)
balanced_single h near m far bn e heavy most lt =
    let s = size_fork h near m (inner_of h far) in
    let a = e.in_out in
    let b = e.out_in in
    let c = e.size_is in
    balanced_fork h (fork h near m (inner_of h far)) (top_of far) (outer_of h far) (omega arith) (omega arith)
    (balanced_fork h near m (inner_of h far) (omega arith) (omega arith) bn e.inner) e.outer

balanced_double : (h : Hand) (near : Tree) (m : ℕ) (inner : Tree) (x : ℕ) (outer : Tree) → Balanced near
    → Evened h inner → Balanced outer → weight inner ≤ 3 * weight outer
    → 3 * weight near < weight inner + weight outer → weight inner + weight outer ≤ 3 * weight near + 3
    → 2 * weight outer ≤ weight inner → Balanced (double h near m inner x outer)
balanced_double h near m inner x outer bn e bo most heavy slack le =
    let s = size_fork h near m (inner_of h inner) in
    let r = size_fork h (outer_of h inner) x outer in
    let a = e.in_out in
    let b = e.out_in in
    let c = e.size_is in
    balanced_fork h (fork h near m (inner_of h inner)) (top_of inner) (fork h (outer_of h inner) x outer)
    (omega arith) (omega arith)
    (balanced_fork h near m (inner_of h inner) (omega arith) (omega arith) bn e.inner)
    (balanced_fork h (outer_of h inner) x outer (omega arith) (omega arith) e.outer bo)

pub balanced_lifted : (h : Hand) (near : Tree) (m : ℕ) (far : Tree) → Balanced near → Balanced far
    → 3 * weight near < weight far → weight far ≤ 3 * weight near + 3 → Balanced (lifted h near m far)
unfolding lifted
balanced_lifted h near m far bn bf heavy most =
    let e = evened h far (omega arith) bf in
    cond_both (ltb (weight (inner_of h far)) (2 * weight (outer_of h far))) (single h near m far)
    (double h near m (inner_of h far) (top_of far) (outer_of h far)) Balanced
    (λ d. balanced_single h near m far bn e heavy most (ltb-true _ _ d))
    (λ d. balanced_double h near m (inner_of h far) (top_of far) (outer_of h far) bn
    (evened h (inner_of h far) (omega (arith, ltb-false _ _ d)) e.inner) e.outer e.in_out
    (omega (arith, e.size_is)) (omega (arith, e.size_is)) (ltb-false _ _ d))

pub balanced_balanced : (h : Hand) (near : Tree) (m : ℕ) (far : Tree) → Balanced near → Balanced far
    → weight near ≤ 3 * weight far → weight far ≤ 3 * weight near + 3 → Balanced (balanced h near m far)
unfolding balanced
balanced_balanced h near m far bn bf light most =
    cond_both (ltb (3 * weight near) (weight far)) (lifted h near m far) (fork h near m far) Balanced
    (λ d. balanced_lifted h near m far bn bf (ltb-true _ _ d) most)
    (λ d. balanced_fork h near m far light (ltb-false _ _ d) bn bf)

pub balanced_grown : (p : ℕ → Bool) (m : ℕ) (t : Tree) → Balanced t → Balanced (grown p m t)
unfolding grown
balanced_grown p m leaf b = (omega arith, omega arith, tt, tt)
balanced_grown p m (node l x r) b =
    let hl = balanced_grown p m l b.2 in
    let hr = balanced_grown p m r b.3 in
    let u = b.0 in
    let v = b.1 in
    cond_both (p x) (balanced Left r x (grown p m l)) (balanced Right l x (grown p m r)) Balanced
    (λ e. balanced_balanced Left r x (grown p m l) b.3 hl (omega (arith, size_grown p m l)) (omega (arith, size_grown p m l)))
    (λ e. balanced_balanced Right l x (grown p m r) b.2 hr (omega (arith, size_grown p m r)) (omega (arith, size_grown p m r)))

pub balanced_rest : (t : Tree) → Balanced t → Balanced (rest_of t)
unfolding rest_of
balanced_rest leaf b = tt
balanced_rest (node leaf m r) b = b.3
balanced_rest (node (node a x c) m r) b =
    let u = b.0 in
    let v = b.1 in
    let s = size_rest (node a x c) (omega arith) in
    balanced_balanced Right (rest_of (node a x c)) m r (balanced_rest (node a x c) b.2) b.3 (omega arith) (omega arith)

pub balanced_glued : (l r : Tree) → Balanced l → Balanced r → weight l ≤ 3 * weight r → weight r ≤ 3 * weight l
    → Balanced (glued l r)
unfolding glued
balanced_glued l leaf bl br p q = bl
balanced_glued l (node a x b) bl br p q =
    let s = size_rest (node a x b) (omega arith) in
    balanced_balanced Left (rest_of (node a x b)) (first_of (node a x b)) l (balanced_rest (node a x b) br) bl
    (omega arith) (omega arith)

pub balanced_shrunk : (p : ℕ → Bool) (m : ℕ) (t : Tree) → Balanced t → Balanced (shrunk p m t)
unfolding shrunk
balanced_shrunk p m leaf b = tt
balanced_shrunk p m (node l x r) b =
    let hl = balanced_shrunk p m l b.2 in
    let hr = balanced_shrunk p m r b.3 in
    let u = b.0 in
    let v = b.1 in
    cond_both (eqb m x) (glued l r) (cond (p x) (balanced Right (shrunk p m l) x r) (balanced Left (shrunk p m r) x l))
    Balanced
    (λ e. balanced_glued l r b.2 b.3 u v)
    (λ e. cond_both (p x) (balanced Right (shrunk p m l) x r) (balanced Left (shrunk p m r) x l) Balanced
    (λ d. balanced_balanced Right (shrunk p m l) x r hl b.3 (omega (arith, size_shrunk p m l)) (omega (arith, size_shrunk p m l)))
    (λ d. balanced_balanced Left (shrunk p m r) x l hr b.2 (omega (arith, size_shrunk p m r)) (omega (arith, size_shrunk p m r))))
