-- There are no more members in a tree than slots, so the tree of the slots is the one that they hold.
use Rattle.std.proofs.Common.{◌≡◌, ℕ, zero, suc, ◌+◌, ◌<◌, ◌≤◌, eqb, List, length, refl, ap, ◌∙◌, inl, inr, arith}
use Rattle.std.proofs.lemmas.Bool.{cond-true, cond-false, eq-eqb, ne_eqb, cases_eq}
use Rattle.ranking.specs.declared.node.Node.{Node}
use Rattle.ranking.specs.Tree.{Tree, leaf, node, size, at, tree_of}
use Rattle.ranking.specs.Slots.{here, times, Rep}
use Rattle.ranking.specs.Sound.{tree_at}
use Rattle.ranking.proofs.Reps.{here_same, here_other, in_rep}

abbrev total : ℕ → (ℕ → ℕ) → ℕ
total zero f = 0
total (suc n) f = total n f + f n

total_node : (n : ℕ) (l : Tree) (m : ℕ) (r : Tree)
    → total n (λ k. times k (node l m r)) ≡ total n (λ k. times k l) + total n (λ k. times k r) + total n (λ k. here k m)
total_node zero l m r = omega arith
total_node (suc n) l m r = omega (arith, total_node n l m r)

total_past : (n m : ℕ) → n ≤ m → total n (λ k. here k m) ≡ 0
total_past zero m p = refl
total_past (suc n) m p = omega (arith, total_past n m (omega arith), here_other n m (omega arith))

total_here : (n m : ℕ) → m < n → total n (λ k. here k m) ≡ 1
total_here zero m p = absurd (omega arith)
total_here (suc n) m p =
    elim (cases_eq n m) [
      | inl e ↦ omega (arith, total_past n m (omega arith), here_same m, ap (λ k. here k m) e)
      | inr d ↦ omega (arith, total_here n m (omega arith), here_other n m d)
    ]

total_size : (n : ℕ) (t : Tree) → ((k : ℕ) → 0 < times k t → k < n) → total n (λ k. times k t) ≡ size t
total_size n leaf h = none n
  where
    none : (n : ℕ) → total n (λ k. times k leaf) ≡ 0
    none zero = refl
    none (suc n) = omega (arith, none n)
total_size n (node l m r) h =
    omega (
      arith,
      total_node n l m r,
      total_size n l (λ k p. h k (omega arith)),
      total_size n r (λ k p. h k (omega arith)),
      total_here n m (h m (omega (arith, here_same m))),
    )

total_le : (n : ℕ) (t : Tree) → ((k : ℕ) → times k t ≤ 1) → total n (λ k. times k t) ≤ n
total_le zero t h = omega arith
total_le (suc n) t h = omega (arith, total_le n t h, h n)

pub size_le : (n : ℕ) (t : Tree) → ((k : ℕ) → 0 < times k t → k < n) → ((k : ℕ) → times k t ≤ 1) → size t ≤ n
size_le n t h a = omega (arith, total_size n t h, total_le n t a)

pub size_rep_le : (ns : List Node) (i : ℕ) (t : Tree) → Rep ns i t → ((k : ℕ) → times k t ≤ 1) → size t ≤ length ns
size_rep_le ns i t h a = size_le (length ns) t (λ k p. (in_rep ns i t k h p).0) a

tree_of_rep : (n : ℕ) (ns : List Node) (i : ℕ) (t : Tree) → Rep ns i t → size t ≤ n → tree_of n ns i ≡ t
unfolding tree_of
tree_of_rep zero ns i leaf h p = refl
tree_of_rep (suc n) ns i leaf h p = cond-true (eqb i 65535) _ _ (eq-eqb i 65535 h)
tree_of_rep zero ns i (node l m r) h p = absurd (omega arith)
tree_of_rep (suc n) ns i (node l m r) h p =
    cond-false (eqb i 65535) _ _ (ne_eqb i 65535 (omega (arith, h.0, h.2)))
    ∙ ap (λ j. node (tree_of n ns (at ns j).left) j (tree_of n ns (at ns j).right)) h.0
    ∙ ap (λ z. node z m (tree_of n ns (at ns m).right)) (tree_of_rep n ns (at ns m).left l h.4 (omega arith))
    ∙ ap (λ z. node l m z) (tree_of_rep n ns (at ns m).right r h.5 (omega arith))

pub tree_at_rep : (ns : List Node) (i : ℕ) (t : Tree) → Rep ns i t → ((k : ℕ) → times k t ≤ 1) → tree_at ns i ≡ t
tree_at_rep ns i t h a = tree_of_rep (length ns) ns i t h (size_rep_le ns i t h a)

-- a member in a tree has a slot that counts
pub count_rep : (ns : List Node) (i : ℕ) (t : Tree) (k : ℕ) → Rep ns i t → (at ns k).count ≡ 0 → times k t ≡ 0
count_rep ns i leaf k h z = refl
count_rep ns i (node l m r) k h z =
    let a = count_rep ns (at ns m).left l k h.4 z in
    let b = count_rep ns (at ns m).right r k h.5 z in
    elim (cases_eq k m) [
      | inl e ↦ absurd (omega (arith, h.3, ap (λ j. (at ns j).count) e))
      | inr d ↦ omega (arith, here_other k m d)
    ]
