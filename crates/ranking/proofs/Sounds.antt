-- What always holds is kept by a change of one side's tree.
use Rattle.std.proofs.Common.{◌≡◌, ℕ, ◌+◌, ◌<◌, ◌≤◌, Bool, true, List, [], ◌∷◌, map, length, sym, refl, ap, ◌∙◌, subst, arith}
use mathlib.Core.Bool.{Bool-set}
use mathlib.Core.Logic.{∥∥₁_elim}
use mathlib.Core.HLevel.{×_prop}
use native.Mathlib.Bridge.{le_prop}
use native.Mathlib.Nat.{ℕ_set}
use Rattle.std.specs.List.{AllByRecursion}
use Rattle.ranking.specs.declared.node.Node.{Node}
use Rattle.ranking.specs.declared.ranked.Side.{Side}
use Rattle.ranking.specs.declared.ranked.Side.TheVariants.{Buyers, Sellers}
use Rattle.ranking.specs.declared.sides.Sides.{Sides}
use Rattle.ranking.specs.Tree.{Tree, leaf, node, size, at, in_order}
use Rattle.ranking.specs.Balance.{Balanced}
use Rattle.ranking.specs.Keys.{ranked_at, ahead, Sorted}
use Rattle.ranking.specs.Sides.{opposite, of_side, with_side}
use Rattle.ranking.specs.Slots.{Rep, times, Stands}
use Rattle.ranking.specs.Sound.{tree_at, side_tree, list_of, Kept, Sound}
use Rattle.ranking.proofs.Counts.{tree_at_rep, size_rep_le}
use Rattle.ranking.proofs.InOrder.{times_occurs}
use Rattle.ranking.proofs.Precedence.{Alike, ahead_alike, map_alike}

-- there is one proof of it at most

rep_prop : (ns : List Node) (i : ℕ) (t : Tree) → IsProp (Rep ns i t)
rep_prop ns i leaf = ℕ_set i 65535
rep_prop ns i (node l m r) =
    λ x y j. (
      ℕ_set i m x.0 y.0 j,
      le_prop x.1 y.1 j,
      le_prop x.2 y.2 j,
      ℕ_set (at ns m).count (size l + size r + 1) x.3 y.3 j,
      rep_prop ns (at ns m).left l x.4 y.4 j,
      rep_prop ns (at ns m).right r x.5 y.5 j,
    )

all_prop : (P : ℕ → Type 0) → ((x : ℕ) → IsProp (P x)) → (xs : List ℕ) → IsProp (AllByRecursion P xs)
all_prop P h [] = λ x y j. tt
all_prop P h (x ∷ xs) = ×_prop (h x) (all_prop P h xs)

sorted_prop : (lt : ℕ → ℕ → Bool) (xs : List ℕ) → IsProp (Sorted lt xs)
sorted_prop lt [] = λ x y j. tt
sorted_prop lt (x ∷ xs) = ×_prop (all_prop (λ y. lt x y ≡ true) (λ y. Bool-set (lt x y) true) xs) (sorted_prop lt xs)

balanced_prop : (t : Tree) → IsProp (Balanced t)
balanced_prop leaf = λ x y j. tt
balanced_prop (node l m r) =
    λ x y j. (
      le_prop x.0 y.0 j,
      le_prop x.1 y.1 j,
      balanced_prop l x.2 y.2 j,
      balanced_prop r x.3 y.3 j,
    )

kept_prop : (s : Side) (ns : List Node) (r : Sides ℕ) → IsProp (Kept s ns r)
kept_prop s ns r x y =
    λ j. record {
      rep = rep_prop ns (of_side s r) (side_tree s ns r) x.rep y.rep j;
      sorted = sorted_prop (ahead s ns) (in_order (side_tree s ns r)) x.sorted y.sorted j;
      even = balanced_prop (side_tree s ns r) x.even y.even j;
      apart = λ k. le_prop (x.apart k) (y.apart k) j;
      free = λ k z. ℕ_set (at ns k).count 0 (x.free k z) (y.free k z) j;
    }

pub sound_from : {ns : List Node} {r : Sides ℕ} → ∥ Sound ns r ∥₁ → Sound ns r
sound_from {ns} {r} h =
    ∥∥₁_elim h
    (λ x y j. record {
      few = le_prop x.few y.few j;
      sides = λ s. kept_prop s ns r (x.sides s) (y.sides s) j;
    })
    (λ x. x)

-- a side and the other one

by_side : (s : Side) (P : Side → Type 0) → P s → P (opposite s) → (o : Side) → P o
by_side Buyers P p q Buyers = p
by_side Buyers P p q Sellers = q
by_side Sellers P p q Buyers = q
by_side Sellers P p q Sellers = p

pub side_same : (s : Side) (i : ℕ) (r : Sides ℕ) → of_side s (with_side s i r) ≡ i
side_same Buyers i r = refl
side_same Sellers i r = refl

pub side_other : (s : Side) (i : ℕ) (r : Sides ℕ) → of_side (opposite s) (with_side s i r) ≡ of_side (opposite s) r
side_other Buyers i r = refl
side_other Sellers i r = refl

pub opposite_twice : (s : Side) → opposite (opposite s) ≡ s
opposite_twice Buyers = refl
opposite_twice Sellers = refl

pub side_again : (s : Side) (r : Sides ℕ) → with_side s (of_side s r) r ≡ r
side_again Buyers r = refl
side_again Sellers r = refl

-- one side's tree has become t, in the slots os in place of ns, and the other side's has stayed u; the members of both
-- have the cents that they had
pub record Change (s : Side) (ns os : List Node) (r : Sides ℕ) (i : ℕ) (t u : Tree) : Type 0 where
  pub few : length os ≤ 65535
  pub rep : Rep os i t
  pub sorted : Sorted (ahead s ns) (in_order t)
  pub even : Balanced t
  pub other_rep : Rep os (of_side (opposite s) r) u
  pub other_sorted : Sorted (ahead (opposite s) ns) (in_order u)
  pub other_even : Balanced u
  pub apart : (k : ℕ) → times k t + times k u ≤ 1
  pub free : (k : ℕ) → times k t + times k u ≡ 0 → (at os k).count ≡ 0
  pub same : (k : ℕ) → 0 < times k t + times k u → (at os k).cents ≡ (at ns k).cents

module _ {s : Side} {ns os : List Node} {r : Sides ℕ} {i : ℕ} {t u : Tree} (c : Change s ns os r i t u) where
  pub changed_same : side_tree s os (with_side s i r) ≡ t
  changed_same =
      ap (tree_at os) (side_same s i r) ∙ tree_at_rep os i t c.rep (λ k. omega (arith, c.apart k))

  pub changed_other : side_tree (opposite s) os (with_side s i r) ≡ u
  changed_other =
      ap (tree_at os) (side_other s i r)
      ∙ tree_at_rep os (of_side (opposite s) r) u c.other_rep (λ k. omega (arith, c.apart k))

  changed_twice : side_tree (opposite (opposite s)) os (with_side s i r) ≡ t
  changed_twice = ap (λ o. side_tree o os (with_side s i r)) (opposite_twice s) ∙ changed_same

  alike : Alike ns os (in_order t)
  alike k p = c.same k (omega (arith, times_occurs k t))

  alike_other : Alike ns os (in_order u)
  alike_other k p = c.same k (omega (arith, times_occurs k u))

  -- the lists of the two sides
  pub changed_list : list_of s os (with_side s i r) ≡ map (ranked_at ns) (in_order t)
  changed_list = ap (λ z. map (ranked_at os) (in_order z)) changed_same ∙ map_alike ns os (in_order t) alike

  pub changed_other_list : list_of (opposite s) os (with_side s i r) ≡ map (ranked_at ns) (in_order u)
  changed_other_list =
      ap (λ z. map (ranked_at os) (in_order z)) changed_other ∙ map_alike ns os (in_order u) alike_other

  kept_as : (o : Side) (v w : Tree) → side_tree o os (with_side s i r) ≡ v
      → side_tree (opposite o) os (with_side s i r) ≡ w → Rep os (of_side o (with_side s i r)) v
      → Sorted (ahead o os) (in_order v) → Balanced v → ((k : ℕ) → times k v + times k w ≤ 1)
      → ((k : ℕ) → times k v + times k w ≡ 0 → (at os k).count ≡ 0) → Kept o os (with_side s i r)
  kept_as o v w ev ew rp so ba apt fr =
      record {
        rep = subst (λ (z : Tree). Rep os (of_side o (with_side s i r)) z) (sym ev) rp;
        sorted = subst (λ (z : Tree). Sorted (ahead o os) (in_order z)) (sym ev) so;
        even = subst Balanced (sym ev) ba;
        apart = λ k. omega (arith, apt k, ap (times k) ev, ap (times k) ew);
        free = λ k z. fr k (omega (arith, z, ap (times k) ev, ap (times k) ew));
      }

  pub changed_sound : Sound os (with_side s i r)
  changed_sound =
      record {
        few = c.few;
        sides = by_side s (λ o. Kept o os (with_side s i r))
            (kept_as s t u changed_same changed_other
            (subst (λ (j : ℕ). Rep os j t) (sym (side_same s i r)) c.rep)
            (ahead_alike ns os s (in_order t) alike c.sorted) c.even c.apart c.free)
            (kept_as (opposite s) u t changed_other changed_twice
            (subst (λ (j : ℕ). Rep os j u) (sym (side_other s i r)) c.other_rep)
            (ahead_alike ns os (opposite s) (in_order u) alike_other c.other_sorted) c.other_even
            (λ k. omega (arith, c.apart k)) (λ k z. c.free k (omega (arith, z))));
      }

-- what the private functions ask
pub side_stands : {ns : List Node} {r : Sides ℕ} → Sound ns r → (s : Side)
    → Stands ns (of_side s r) (side_tree s ns r)
side_stands {ns} {r} h s =
    let k = h.sides s in
    record {
      rep = k.rep;
      apart = λ j. omega (arith, k.apart j);
      fits = omega (arith, h.few, size_rep_le ns (of_side s r) (side_tree s ns r) k.rep (λ j. omega (arith, k.apart j)));
    }
