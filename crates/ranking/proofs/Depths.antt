-- The depth of a balanced tree.
use Rattle.std.proofs.Common.{◌≡◌, ℕ, suc, ◌+◌, ◌*◌, ◌^◌, ◌<◌, ◌≤◌, max, ap, ◌∙◌, subst, inl, inr, mul_assoc, mul-le-mul_left, pow-suc, mul_left_comm, arith}
use Rattle.std.proofs.lemmas.Bool.{cases_lt}
use Rattle.ranking.specs.Tree.{Tree, leaf, node, size, height}
use Rattle.ranking.specs.Balance.{Balanced, weight}
use Rattle.ranking.specs.Depth.{Shallow}

-- one more level, over a child of weight v in a tree of weight w
deeper : (h v w : ℕ) → 4 ^ h ≤ 3 ^ h * v → 4 * v ≤ 3 * w → 4 ^ suc h ≤ 3 ^ suc h * w
deeper h v w p q =
    let a = pow-suc 4 h in
    let b = pow-suc 3 h in
    let c = mul-le-mul_left (3 ^ h) q in
    let d = mul_left_comm (3 ^ h) 4 v in
    let e = ap (λ x. x * w) b ∙ mul_assoc (3 ^ h) 3 w in
    omega (arith, a, c, d, e)

pub shallow : (t : Tree) → Balanced t → Shallow t
shallow leaf b = omega arith
shallow (node l m r) b =
    let hl = shallow l b.2 in
    let hr = shallow r b.3 in
    let P : ℕ → Type 0 = λ h. 4 ^ suc h ≤ 3 ^ suc h * (size l + size r + 1 + 1) in
    elim (cases_lt (height l) (height r)) [
      | inl lt ↦ subst P (taller (height l) (height r) lt)
          (deeper (height r) (weight r) (size l + size r + 1 + 1) hr (omega (arith, b.0, b.1)))
      | inr le ↦ subst P (lower (height l) (height r) le)
          (deeper (height l) (weight l) (size l + size r + 1 + 1) hl (omega (arith, b.0, b.1)))
    ]
  where
    taller : (x y : ℕ) → x < y → y ≡ max x y
    taller x y h = omega arith

    lower : (x y : ℕ) → y ≤ x → x ≡ max x y
    lower x y h = omega arith
