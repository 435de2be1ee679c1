-- The in_order lists, the sizes and the members of the trees that the code makes.
use Rattle.std.proofs.Common.{◌≡◌, ℕ, ◌+◌, ◌*◌, ◌<◌, ◌≤◌, Bool, cond, eqb, ltb, List, [], ◌∷◌, ◌++◌, length, sym, refl, ap, ◌∙◌, arith}
use Rattle.std.proofs.lemmas.Bool.{cond_both, ltb-true, ltb-false}
use Rattle.std.proofs.lemmas.List.{append_assoc, append-nil, length-append}
use Rattle.ranking.specs.declared.node.Hand.{Hand}
use Rattle.ranking.specs.declared.node.Hand.TheVariants.{Left, Right}
use Rattle.ranking.specs.Tree.{Tree, leaf, node, size, in_order}
use Rattle.ranking.specs.Balance.{weight, fork, inner_of, outer_of, top_of, single, double, lifted, balanced, grown, first_of, rest_of, glued, shrunk}
use Rattle.ranking.specs.Slots.{here, times}
use Rattle.ranking.proofs.Reps.{size_fork, times_fork}

abbrev pub occurs : ℕ → List ℕ → ℕ
occurs k [] = 0
occurs k (x ∷ xs) = here k x + occurs k xs

pub occurs_append : (k : ℕ) (xs ys : List ℕ) → occurs k (xs ++ ys) ≡ occurs k xs + occurs k ys
occurs_append k [] ys = omega arith
occurs_append k (x ∷ xs) ys = let h = occurs_append k xs ys in omega arith

pub times_occurs : (k : ℕ) (t : Tree) → times k t ≡ occurs k (in_order t)
times_occurs k leaf = refl
times_occurs k (node l m r) =
    omega (arith, times_occurs k l, times_occurs k r, occurs_append k (in_order l) (m ∷ in_order r))

pub size_length : (t : Tree) → size t ≡ length (in_order t)
size_length leaf = refl
size_length (node l m r) =
    omega (arith, size_length l, size_length r, length-append (in_order l) (m ∷ in_order r))

pub times_same : (k : ℕ) (t u : Tree) → in_order t ≡ in_order u → times k t ≡ times k u
times_same k t u e = times_occurs k t ∙ ap (λ xs. occurs k xs) e ∙ sym (times_occurs k u)

pub size_same : (t u : Tree) → in_order t ≡ in_order u → size t ≡ size u
size_same t u e = size_length t ∙ ap length e ∙ sym (size_length u)

double_in_order : (h : Hand) (near : Tree) (m : ℕ) (inner : Tree) (x : ℕ) (outer : Tree) → 0 < size inner
    → in_order (double h near m inner x outer) ≡ in_order (fork h (fork h near m inner) x outer)
double_in_order h near m leaf x outer p = absurd (omega arith)
double_in_order Left near m (node a y b) x outer p = simp append_assoc
double_in_order Right near m (node a y b) x outer p = simp append_assoc

single_in_order : (h : Hand) (near : Tree) (m : ℕ) (far : Tree) → 0 < size far
    → in_order (single h near m far) ≡ in_order (fork h near m far)
single_in_order h near m leaf p = absurd (omega arith)
single_in_order Left near m (node a y b) p = simp append_assoc
single_in_order Right near m (node a y b) p = simp append_assoc

pub in_order_lifted : (h : Hand) (near : Tree) (m : ℕ) (far : Tree) → 0 < size far
    → in_order (lifted h near m far) ≡ in_order (fork h near m far)
unfolding lifted
in_order_lifted h near m far p =
    cond_both (ltb (weight (inner_of h far)) (2 * weight (outer_of h far))) (single h near m far)
    (double h near m (inner_of h far) (top_of far) (outer_of h far))
    (λ z. in_order z ≡ in_order (fork h near m far))
    (λ e. single_in_order h near m far p)
    (λ e. double_in_order h near m (inner_of h far) (top_of far) (outer_of h far) (omega (arith, ltb-false _ _ e))
    ∙ single_in_order h near m far p)

pub in_order_balanced : (h : Hand) (near : Tree) (m : ℕ) (far : Tree)
    → in_order (balanced h near m far) ≡ in_order (fork h near m far)
unfolding balanced
in_order_balanced h near m far =
    cond_both (ltb (3 * weight near) (weight far)) (lifted h near m far) (fork h near m far)
    (λ z. in_order z ≡ in_order (fork h near m far))
    (λ e. in_order_lifted h near m far (omega (arith, ltb-true _ _ e)))
    (λ e. refl)

pub times_balanced : (k : ℕ) (h : Hand) (near : Tree) (m : ℕ) (far : Tree)
    → times k (balanced h near m far) ≡ times k near + times k far + here k m
times_balanced k h near m far =
    times_same k (balanced h near m far) (fork h near m far) (in_order_balanced h near m far) ∙ times_fork k h near m far

pub size_balanced : (h : Hand) (near : Tree) (m : ℕ) (far : Tree)
    → size (balanced h near m far) ≡ size near + size far + 1
size_balanced h near m far =
    size_same (balanced h near m far) (fork h near m far) (in_order_balanced h near m far) ∙ size_fork h near m far

-- one member more
pub times_grown : (k : ℕ) (p : ℕ → Bool) (m : ℕ) (t : Tree) → times k (grown p m t) ≡ times k t + here k m
unfolding grown
times_grown k p m leaf = omega arith
times_grown k p m (node l x r) =
    let hl = times_grown k p m l in
    let hr = times_grown k p m r in
    cond_both (p x) (balanced Left r x (grown p m l)) (balanced Right l x (grown p m r))
    (λ z. times k z ≡ times k l + times k r + here k x + here k m)
    (λ e. omega (arith, times_balanced k Left r x (grown p m l)))
    (λ e. omega (arith, times_balanced k Right l x (grown p m r)))

pub size_grown : (p : ℕ → Bool) (m : ℕ) (t : Tree) → size (grown p m t) ≡ size t + 1
unfolding grown
size_grown p m leaf = omega arith
size_grown p m (node l x r) =
    let hl = size_grown p m l in
    let hr = size_grown p m r in
    cond_both (p x) (balanced Left r x (grown p m l)) (balanced Right l x (grown p m r))
    (λ z. size z ≡ size l + size r + 1 + 1)
    (λ e. omega (arith, size_balanced Left r x (grown p m l)))
    (λ e. omega (arith, size_balanced Right l x (grown p m r)))

-- the first one out
pub in_order_rest : (t : Tree) → 0 < size t → in_order t ≡ first_of t ∷ in_order (rest_of t)
unfolding first_of rest_of
in_order_rest leaf p = absurd (omega arith)
in_order_rest (node leaf m r) p = refl
in_order_rest (node (node a x b) m r) p =
    ap (λ xs. xs ++ m ∷ in_order r) (in_order_rest (node a x b) (omega arith))
    ∙ ap (λ xs. first_of (node a x b) ∷ xs) (sym (in_order_balanced Right (rest_of (node a x b)) m r))

pub times_rest : (k : ℕ) (t : Tree) → 0 < size t → times k t ≡ times k (rest_of t) + here k (first_of t)
times_rest k t p =
    omega (arith, times_occurs k t, times_occurs k (rest_of t), ap (λ xs. occurs k xs) (in_order_rest t p))

pub size_rest : (t : Tree) → 0 < size t → size t ≡ size (rest_of t) + 1
size_rest t p = omega (arith, size_length t, size_length (rest_of t), ap length (in_order_rest t p))

pub in_order_glued : (l r : Tree) → in_order (glued l r) ≡ in_order l ++ in_order r
unfolding glued
in_order_glued l leaf = sym (append-nil (in_order l))
in_order_glued l (node a x b) =
    in_order_balanced Left (rest_of (node a x b)) (first_of (node a x b)) l
    ∙ ap (λ xs. in_order l ++ xs) (sym (in_order_rest (node a x b) (omega arith)))

pub times_glued : (k : ℕ) (l r : Tree) → times k (glued l r) ≡ times k l + times k r
times_glued k l r =
    omega (
      arith,
      times_occurs k (glued l r),
      times_occurs k l,
      times_occurs k r,
      ap (λ xs. occurs k xs) (in_order_glued l r),
      occurs_append k (in_order l) (in_order r),
    )

pub size_glued : (l r : Tree) → size (glued l r) ≡ size l + size r
size_glued l r =
    omega (
      arith,
      size_length (glued l r),
      size_length l,
      size_length r,
      ap length (in_order_glued l r),
      length-append (in_order l) (in_order r),
    )

-- at most one member less
pub times_shrunk : (k : ℕ) (p : ℕ → Bool) (m : ℕ) (t : Tree) → times k (shrunk p m t) ≤ times k t
unfolding shrunk
times_shrunk k p m leaf = omega arith
times_shrunk k p m (node l x r) =
    let hl = times_shrunk k p m l in
    let hr = times_shrunk k p m r in
    cond_both (eqb m x) (glued l r) (cond (p x) (balanced Right (shrunk p m l) x r) (balanced Left (shrunk p m r) x l))
    (λ z. times k z ≤ times k l + times k r + here k x)
    (λ e. omega (arith, times_glued k l r))
    (λ e. cond_both (p x) (balanced Right (shrunk p m l) x r) (balanced Left (shrunk p m r) x l)
    (λ z. times k z ≤ times k l + times k r + here k x)
    (λ d. omega (arith, times_balanced k Right (shrunk p m l) x r))
    (λ d. omega (arith, times_balanced k Left (shrunk p m r) x l)))

pub size_shrunk : (p : ℕ → Bool) (m : ℕ) (t : Tree)
    → (size (shrunk p m t) ≤ size t) × (size t ≤ size (shrunk p m t) + 1)
unfolding shrunk
size_shrunk p m leaf = omega arith
size_shrunk p m (node l x r) =
    let hl = size_shrunk p m l in
    let hr = size_shrunk p m r in
    cond_both (eqb m x) (glued l r) (cond (p x) (balanced Right (shrunk p m l) x r) (balanced Left (shrunk p m r) x l))
    (λ z. (size z ≤ size l + size r + 1) × (size l + size r + 1 ≤ size z + 1))
    (λ e. omega (arith, size_glued l r))
    (λ e. cond_both (p x) (balanced Right (shrunk p m l) x r) (balanced Left (shrunk p m r) x l)
    (λ z. (size z ≤ size l + size r + 1) × (size l + size r + 1 ≤ size z + 1))
    (λ d. omega (arith, size_balanced Right (shrunk p m l) x r))
    (λ d. omega (arith, size_balanced Left (shrunk p m r) x l)))
