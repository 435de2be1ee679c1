-- Trees in slots: what a write leaves of them.
use Rattle.std.proofs.Common.{◌≡◌, ℕ, ◌+◌, ◌<◌, ◌≤◌, cond, List, length, set, sym, refl, ap, ◌∙◌, subst, inl, inr, arith}
use Rattle.std.proofs.lemmas.Bool.{eq-eqb, ne_eqb, cases_eq, cases_lt}
use Rattle.std.proofs.lemmas.List.{length-set, get_or-set_same, get_or-set_other}
use Rattle.orders.specs.declared.money.Cents.{Cents}
use Rattle.ranking.specs.declared.node.Node.{Node}
use Rattle.ranking.specs.declared.node.Hand.{Hand}
use Rattle.ranking.specs.declared.node.Hand.TheVariants.{Left, Right}
use Rattle.ranking.specs.Tree.{Tree, leaf, node, size, at, blank}
use Rattle.ranking.specs.Balance.{node_of, fork, inner_of, outer_of, top_of, inner_at, outer_at}
use Rattle.ranking.specs.Slots.{here, times, Rep, size_at, Slot, Parts, Became}

pub here_same : (m : ℕ) → here m m ≡ 1
here_same m = ap (λ b. cond b 1 0) (eq-eqb m m refl)

pub here_other : (k m : ℕ) → (k ≡ m → ⊥) → here k m ≡ 0
here_other k m d = ap (λ b. cond b 1 0) (ne_eqb k m d)

pub here_eq : (k m : ℕ) → 0 < here k m → k ≡ m
here_eq k m h = elim (cases_eq k m) [ inl e ↦ e | inr d ↦ omega (arith, here_other k m d) ]

pub at_set_same : (ns : List Node) (m : ℕ) (v : Node) → m < length ns → at (set ns m v) m ≡ v
at_set_same ns m v h = get_or-set_same ns m v blank h

pub at_set_other : (ns : List Node) (m k : ℕ) (v : Node) → (k ≡ m → ⊥) → at (set ns m v) k ≡ at ns k
at_set_other ns m k v d = get_or-set_other ns m k v blank d

-- a tree stands on if its slots have not changed
pub rep_keep : (ns os : List Node) (i : ℕ) (t : Tree) → length os ≡ length ns
    → ((k : ℕ) → 0 < times k t → at os k ≡ at ns k) → Rep ns i t → Rep os i t
rep_keep ns os i leaf e same h = h
rep_keep ns os i (node l m r) e same h =
    let s : at os m ≡ at ns m = same m (omega (arith, here_same m)) in (
      h.0,
      omega (arith, h.1),
      h.2,
      ap (λ n. n.count) s ∙ h.3,
      subst (λ (n : Node). Rep os n.left l) (sym s) (rep_keep ns os (at ns m).left l e (λ k p. same k (omega arith)) h.4),
      subst (λ (n : Node). Rep os n.right r) (sym s) (rep_keep ns os (at ns m).right r e (λ k p. same k (omega arith)) h.5),
    )

pub rep_set : (ns : List Node) (i : ℕ) (t : Tree) (m : ℕ) (v : Node) → times m t ≡ 0 → Rep ns i t → Rep (set ns m v) i t
rep_set ns i t m v z h =
    rep_keep ns (set ns m v) i t (length-set ns m v)
    (λ k p. at_set_other ns m k v (λ e. omega (arith, ap (λ j. times j t) e))) h

-- the size that the slots have
pub size_rep : (ns : List Node) (i : ℕ) (t : Tree) → Rep ns i t → size_at ns i ≡ size t
size_rep ns i leaf h = ap (λ b. cond b 0 (at ns i).count) (eq-eqb i 65535 h)
size_rep ns i (node l m r) h =
    ap (λ b. cond b 0 (at ns i).count) (ne_eqb i 65535 (omega (arith, h.0, h.2)))
    ∙ ap (λ j. (at ns j).count) h.0 ∙ h.3

pub slot_rep : (ns : List Node) (i : ℕ) (t : Tree) → Rep ns i t → Slot ns i
slot_rep ns i leaf h = λ d. absurd (d h)
slot_rep ns i (node l m r) h = λ d. omega (arith, h.0, h.1)

-- a tree that is no leaf, taken apart on a hand
pub record Opened (h : Hand) (ns : List Node) (i : ℕ) (t : Tree) : Type 0 where
  pub is : t ≡ fork h (inner_of h t) i (outer_of h t)
  pub top : top_of t ≡ i
  pub within : i < length ns
  pub below : i < 65535
  pub inner : Rep ns (inner_at h (at ns i)) (inner_of h t)
  pub outer : Rep ns (outer_at h (at ns i)) (outer_of h t)
  pub size_is : size t ≡ size (inner_of h t) + size (outer_of h t) + 1
  pub some : 0 < size t
  pub times_is : (k : ℕ) → times k t ≡ times k (inner_of h t) + times k (outer_of h t) + here k i

pub open_rep : (h : Hand) (ns : List Node) (i : ℕ) (t : Tree) → Rep ns i t → (i ≡ 65535 → ⊥) → Opened h ns i t
open_rep h ns i leaf p d = absurd (d p)
open_rep Left ns i (node l m r) p d =
    record {
      is = ap (λ j. node l j r) (sym p.0);
      top = sym p.0;
      within = omega (arith, p.0, p.1);
      below = omega (arith, p.0, p.2);
      inner = subst (λ (j : ℕ). Rep ns (at ns j).right r) (sym p.0) p.5;
      outer = subst (λ (j : ℕ). Rep ns (at ns j).left l) (sym p.0) p.4;
      size_is = omega arith;
      some = omega arith;
      times_is = λ k. omega (arith, ap (λ j. here k j) p.0);
    }
open_rep Right ns i (node l m r) p d =
    record {
      is = ap (λ j. node l j r) (sym p.0);
      top = sym p.0;
      within = omega (arith, p.0, p.1);
      below = omega (arith, p.0, p.2);
      inner = subst (λ (j : ℕ). Rep ns (at ns j).left l) (sym p.0) p.4;
      outer = subst (λ (j : ℕ). Rep ns (at ns j).right r) (sym p.0) p.5;
      size_is = omega arith;
      some = omega arith;
      times_is = λ k. omega (arith, ap (λ j. here k j) p.0);
    }

pub size_fork : (h : Hand) (t : Tree) (m : ℕ) (u : Tree) → size (fork h t m u) ≡ size t + size u + 1
size_fork Left t m u = omega arith
size_fork Right t m u = omega arith

pub times_fork : (k : ℕ) (h : Hand) (t : Tree) (m : ℕ) (u : Tree) → times k (fork h t m u) ≡ times k t + times k u + here k m
times_fork k Left t m u = omega arith
times_fork k Right t m u = omega arith

-- what `join` leaves
pub rep_fork : (h : Hand) (ns : List Node) (m i j n : ℕ) (c : Cents) (t u : Tree) → Rep ns i t → Rep ns j u → times m t ≡ 0
    → times m u ≡ 0 → m < length ns → m < 65535 → n ≡ size t + size u + 1
    → Rep (set ns m (node_of h i j n c)) m (fork h t m u)
rep_fork h ns m i j n c t u p q zt zu wm bm e = by_hand h
  where
    os : Hand → List Node
    os g = set ns m (node_of g i j n c)

    sits : (g : Hand) → at (os g) m ≡ node_of g i j n c
    sits g = at_set_same ns m (node_of g i j n c) wm

    at_t : (g : Hand) → Rep (os g) i t
    at_t g = rep_set ns i t m (node_of g i j n c) zt p

    at_u : (g : Hand) → Rep (os g) j u
    at_u g = rep_set ns j u m (node_of g i j n c) zu q

    wide : (g : Hand) → m < length (os g)
    wide g = omega (arith, length-set ns m (node_of g i j n c))

    by_hand : (g : Hand) → Rep (os g) m (fork g t m u)
    by_hand Left = (
      refl,
      wide Left,
      bm,
      ap (λ x. x.count) (sits Left) ∙ omega arith,
      subst (λ (x : Node). Rep (os Left) x.left u) (sym (sits Left)) (at_u Left),
      subst (λ (x : Node). Rep (os Left) x.right t) (sym (sits Left)) (at_t Left),
    )
    by_hand Right = (
      refl,
      wide Right,
      bm,
      ap (λ x. x.count) (sits Right) ∙ omega arith,
      subst (λ (x : Node). Rep (os Right) x.left t) (sym (sits Right)) (at_t Right),
      subst (λ (x : Node). Rep (os Right) x.right u) (sym (sits Right)) (at_u Right),
    )

-- a tree that shares no slot with the tree that changed
pub became_keeps : (was ns : List Node) (i : ℕ) (t u : Tree) (j : ℕ) (v : Tree) → Became was ns i t u
    → length ns ≡ length was → ((k : ℕ) → times k u + times k v ≤ 1) → Rep was j v → Rep ns j v
became_keeps was ns i t u j v b e ap' h =
    rep_keep was ns j v e (λ k p. b.rest k (let q = ap' k in omega arith)) h

-- a slot that is written, and keeps its cents
cents_set : (ns : List Node) (m : ℕ) (v : Node) → v.cents ≡ (at ns m).cents → m < length ns → (k : ℕ)
    → (at (set ns m v) k).cents ≡ (at ns k).cents
cents_set ns m v ev w k =
    elim (cases_eq k m) [
      | inl e ↦ ap (λ j. (at (set ns m v) j).cents) e ∙ ap (λ n. n.cents) (at_set_same ns m v w) ∙ ev
          ∙ ap (λ j. (at ns j).cents) (sym e)
      | inr d ↦ ap (λ n. n.cents) (at_set_other ns m k v d)
    ]

node_cents : (h : Hand) (i j n : ℕ) (c : Cents) → (node_of h i j n c).cents ≡ c
node_cents Left i j n c = refl
node_cents Right i j n c = refl

pub join_became : (h : Hand) (ns os : List Node) (m i j n : ℕ) (t u : Tree)
    → os ≡ set ns m (node_of h i j n (at ns m).cents) → n ≡ size_at ns i + size_at ns j + 1 → Parts ns m i j t u
    → Became ns os m (fork h t m u) (node t m u)
join_became h ns os m i j n t u e en p =
    let am = p.apart m in
    let hm = here_same m in
    let v : Node = node_of h i j n (at ns m).cents in
    record {
      rep = subst (λ (xs : List Node). Rep xs m (fork h t m u)) (sym e)
          (rep_fork h ns m i j n (at ns m).cents t u p.first p.second (omega arith) (omega arith) p.within p.below
          (omega (arith, size_rep ns i t p.first, size_rep ns j u p.second)));
      rest = λ k z. ap (λ (xs : List Node). at xs k) e
          ∙ at_set_other ns m k v (λ q. let w = ap (λ (x : ℕ). here x m) q in omega arith);
      kept = λ k. ap (λ (xs : List Node). (at xs k).cents) e
          ∙ cents_set ns m v (node_cents h i j n (at ns m).cents) p.within k;
    }

pub some_rep : (ns : List Node) (i : ℕ) (t : Tree) → Rep ns i t → 0 < size t → i ≡ 65535 → ⊥
some_rep ns i leaf h p e = omega arith
some_rep ns i (node l m r) h p e = omega (arith, h.0, h.2)

-- a member of a tree has a slot
pub in_rep : (ns : List Node) (i : ℕ) (t : Tree) (k : ℕ) → Rep ns i t → 0 < times k t → (k < length ns) × (k < 65535)
in_rep ns i leaf k h p = absurd (omega arith)
in_rep ns i (node l m r) k h p =
    elim (cases_lt 0 (times k l)) [
      | inl a ↦ in_rep ns (at ns m).left l k h.4 a
      | inr a ↦ elim (cases_lt 0 (times k r)) [
        | inl b ↦ in_rep ns (at ns m).right r k h.5 b
        | inr b ↦ let e : k ≡ m = here_eq k m (omega arith) in (omega (arith, e, h.1), omega (arith, e, h.2))
      ]
    ]

pub small_rep : (ns : List Node) (i : ℕ) (t : Tree) → Rep ns i t → i < 65536
small_rep ns i leaf h = omega arith
small_rep ns i (node l m r) h = omega (arith, h.0, h.2)
