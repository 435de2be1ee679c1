-- One member more in a side's tree, or one less.
use Rattle.std.proofs.Common.{◌≡◌, ℕ, ◌+◌, ◌<◌, ◌≤◌, true, not, ◌||◌, eqb, ltb, List, [], ◌∷◌, map, length, set, filter, sym, refl, ap, ◌∙◌, subst, inl, inr, arith}
use Rattle.std.proofs.lemmas.List.{length-set}
use Rattle.std.proofs.lemmas.Bool.{cases_eq, eq-eqb, ne_eqb, lt-ltb, le-ltb, cases_lt}
use Rattle.ranking.specs.declared.node.Node.{Node}
use Rattle.ranking.specs.declared.ranked.Side.{Side}
use Rattle.ranking.specs.declared.sides.Sides.{Sides}
use Rattle.ranking.specs.Ranks.{own, insert}
use Rattle.ranking.specs.Tree.{Tree, leaf, node, size, at, in_order}
use Rattle.ranking.specs.Balance.{grown, shrunk}
use Rattle.ranking.specs.Keys.{ranked_at, ahead, Sorted}
use Rattle.ranking.specs.Sides.{opposite, of_side}
use Rattle.ranking.specs.Slots.{here, times, Parts, Became}
use Rattle.ranking.specs.Sound.{side_tree, Sound}
use Rattle.ranking.specs.Lists.{has}
use Rattle.ranking.proofs.Reps.{here_same, here_other, here_eq, rep_set, at_set_same, at_set_other, became_keeps, in_rep}
use Rattle.ranking.proofs.InOrder.{occurs, times_occurs, size_length, times_grown, times_shrunk}
use Rattle.ranking.proofs.Weights.{balanced_grown, balanced_shrunk}
use Rattle.ranking.proofs.Rows.{placed, without, sorted_kept, sorted_placed, in_order_grown, in_order_shrunk, length_without, occurs_without_same, occurs_without_other}
use Rattle.ranking.proofs.Precedence.{before_trans, before_asym, before_total, map_placed, map_without}
use Rattle.ranking.proofs.Counts.{count_rep, size_le}
use Rattle.ranking.proofs.Sounds.{Change, side_stands}

ahead_trans : (s : Side) (ns : List Node) (x y z : ℕ) → ahead s ns x y ≡ true → ahead s ns y z ≡ true
    → ahead s ns x z ≡ true
ahead_trans s ns x y z = before_trans s (ranked_at ns x) (ranked_at ns y) (ranked_at ns z)

ahead_asym : (s : Side) (ns : List Node) (x y : ℕ) → ahead s ns x y ≡ true → ahead s ns y x ≡ true → ⊥
ahead_asym s ns x y = before_asym s (ranked_at ns x) (ranked_at ns y)

-- a member of a tree is another than one that is not
apart_from : (m k : ℕ) (t : Tree) → times m t ≡ 0 → 0 < times k t → k ≡ m → ⊥
apart_from m k t z p e = omega (arith, ap (λ j. times j t) e)

-- whether a member is in a list
pub has_occurs : (ns : List Node) (m : ℕ) (xs : List ℕ) → has m (map (ranked_at ns) xs) ≡ ltb 0 (occurs m xs)
has_occurs ns m [] = sym (le-ltb 0 0 (omega arith))
has_occurs ns m (x ∷ xs) =
    let r = has_occurs ns m xs in
    elim (cases_eq x m) [
      | inl e ↦ ap (λ b. b || has m (map (ranked_at ns) xs)) (eq-eqb x m e)
          ∙ sym (lt-ltb 0 (occurs m (x ∷ xs)) (omega (arith, here_same m, ap (λ k. here m k) e)))
      | inr d ↦ ap (λ b. b || has m (map (ranked_at ns) xs)) (ne_eqb x m d) ∙ r
          ∙ ap (ltb 0) (sum (here m x) (occurs m xs) (here_other m x (λ e. d (sym e))))
    ]
  where
    sum : (i n : ℕ) → i ≡ 0 → n ≡ i + n
    sum i n e = omega arith

module _ {ns : List Node} {r : Sides ℕ} (h : Sound ns r) (s : Side) (m : ℕ) where
  module _ (within : m < length ns) (z : (at ns m).count ≡ 0) where
    absent : times m (side_tree s ns r) ≡ 0
    absent = count_rep ns (of_side s r) (side_tree s ns r) m (h.sides s).rep z

    absent_other : times m (side_tree (opposite s) ns r) ≡ 0
    absent_other =
        count_rep ns (of_side (opposite s) r) (side_tree (opposite s) ns r) m (h.sides (opposite s)).rep z

    alone : (k : ℕ) → times k (side_tree s ns r) + times k (side_tree (opposite s) ns r) + here k m ≤ 1
    alone k =
        elim (cases_eq k m) [
          | inl e ↦ omega (
            arith,
            ap (λ j. times j (side_tree s ns r)) e,
            ap (λ j. times j (side_tree (opposite s) ns r)) e,
            absent,
            absent_other,
            ap (λ j. here j m) e,
            here_same m,
          )
          | inr d ↦ omega (arith, (h.sides s).apart k, here_other k m d)
        ]

    pub put_parts : Parts ns m (of_side s r) 65535 (side_tree s ns r) leaf
    put_parts =
        record {
          first = (h.sides s).rep;
          second = refl;
          apart = λ k. omega (arith, alone k);
          within = within;
          below = omega (arith, h.few);
          fits = omega (
            arith,
            h.few,
            size_le (length ns) (node (side_tree s ns r) m leaf)
                (λ k p. slots k p) (λ k. omega (arith, alone k)),
          );
        }
      where
        slots : (k : ℕ) → 0 < times k (node (side_tree s ns r) m leaf) → k < length ns
        slots k p =
            elim (cases_lt 0 (times k (side_tree s ns r))) [
              | inl a ↦ (in_rep ns (of_side s r) (side_tree s ns r) k (h.sides s).rep a).0
              | inr a ↦ omega (arith, here_eq k m (omega arith))
            ]

    -- another free node in its slot
    pub price_change : (v : Node) → v.count ≡ 0
        → Change s ns (set ns m v) r (of_side s r) (side_tree s ns r) (side_tree (opposite s) ns r)
    price_change v vz =
        let t = side_tree s ns r in
        let u = side_tree (opposite s) ns r in
        record {
          few = omega (arith, h.few, length-set ns m v);
          rep = rep_set ns (of_side s r) t m v absent (h.sides s).rep;
          sorted = (h.sides s).sorted;
          even = (h.sides s).even;
          other_rep = rep_set ns (of_side (opposite s) r) u m v absent_other (h.sides (opposite s)).rep;
          other_sorted = (h.sides (opposite s)).sorted;
          other_even = (h.sides (opposite s)).even;
          apart = (h.sides s).apart;
          free = λ k y. elim (cases_eq k m) [
            | inl e ↦ ap (λ j. (at (set ns m v) j).count) e ∙ ap (λ n. n.count) (at_set_same ns m v within) ∙ vz
            | inr d ↦ ap (λ n. n.count) (at_set_other ns m k v d) ∙ (h.sides s).free k y
          ];
          same = λ k p. ap (λ n. n.cents) (at_set_other ns m k v
              (λ e. omega (arith, alone m, here_same m, ap (λ j. times j t + times j u) e)));
        }

    in_order_put : in_order (grown (ahead s ns m) m (side_tree s ns r)) ≡ placed (ahead s ns m) m (in_order (side_tree s ns r))
    in_order_put =
        in_order_grown (ahead s ns) m (ahead_trans s ns) (ahead_asym s ns) (side_tree s ns r) (h.sides s).sorted

    pub listed_put : map (ranked_at ns) (in_order (grown (ahead s ns m) m (side_tree s ns r)))
        ≡ insert s own (ranked_at ns m) (map (ranked_at ns) (in_order (side_tree s ns r)))
    listed_put = ap (map (ranked_at ns)) in_order_put ∙ map_placed s ns m (in_order (side_tree s ns r))

    pub put_change : {os : List Node} → length os ≡ length ns → {i : ℕ}
        → Became ns os i (grown (ahead s ns m) m (side_tree s ns r)) (node (side_tree s ns r) m leaf)
        → Change s ns os r i (grown (ahead s ns m) m (side_tree s ns r)) (side_tree (opposite s) ns r)
    put_change {os} eo {i} f =
        let t = side_tree s ns r in
        let u = side_tree (opposite s) ns r in
        record {
          few = omega (arith, h.few);
          rep = f.rep;
          sorted = subst (Sorted (ahead s ns)) (sym in_order_put)
              (sorted_placed (ahead s ns) m (ahead_trans s ns) (ahead_asym s ns)
              (λ y d e. before_total s (ranked_at ns m) (ranked_at ns y) d e)
              (in_order t) (h.sides s).sorted (sym (times_occurs m t) ∙ absent));
          even = balanced_grown (ahead s ns m) m t (h.sides s).even;
          other_rep = became_keeps ns os i _ (node t m leaf) (of_side (opposite s) r) u f eo
              (λ k. omega (arith, alone k)) (h.sides (opposite s)).rep;
          other_sorted = (h.sides (opposite s)).sorted;
          other_even = (h.sides (opposite s)).even;
          apart = λ k. omega (arith, alone k, times_grown k (ahead s ns m) m t);
          free = λ k y.
              let g = times_grown k (ahead s ns m) m t in
              ap (λ n. n.count) (f.rest k (omega arith)) ∙ (h.sides s).free k (omega arith);
          same = λ k p. f.kept k;
        }

  -- one member less
  in_order_take : in_order (shrunk (ahead s ns m) m (side_tree s ns r)) ≡ without m (in_order (side_tree s ns r))
  in_order_take =
      in_order_shrunk (ahead s ns) m (ahead_asym s ns) (side_tree s ns r) (h.sides s).sorted
      ((side_stands h s).apart m)

  pub listed_take : map (ranked_at ns) (in_order (shrunk (ahead s ns m) m (side_tree s ns r)))
      ≡ filter (λ x. not (eqb x.member m)) (map (ranked_at ns) (in_order (side_tree s ns r)))
  listed_take = ap (map (ranked_at ns)) in_order_take ∙ map_without s ns m (in_order (side_tree s ns r))

  times_take_same : times m (shrunk (ahead s ns m) m (side_tree s ns r)) ≡ 0
  times_take_same =
      times_occurs m (shrunk (ahead s ns m) m (side_tree s ns r)) ∙ ap (occurs m) in_order_take
      ∙ occurs_without_same m (in_order (side_tree s ns r))

  times_take_other : (k : ℕ) → (k ≡ m → ⊥)
      → times k (shrunk (ahead s ns m) m (side_tree s ns r)) ≡ times k (side_tree s ns r)
  times_take_other k d =
      times_occurs k (shrunk (ahead s ns m) m (side_tree s ns r)) ∙ ap (occurs k) in_order_take
      ∙ occurs_without_other k m (in_order (side_tree s ns r)) d ∙ sym (times_occurs k (side_tree s ns r))

  -- how many fewer there are
  pub size_take : size (shrunk (ahead s ns m) m (side_tree s ns r)) + times m (side_tree s ns r) ≡ size (side_tree s ns r)
  size_take =
      omega (
        arith,
        size_length (shrunk (ahead s ns m) m (side_tree s ns r)),
        size_length (side_tree s ns r),
        ap length in_order_take,
        length_without m (in_order (side_tree s ns r)),
        times_occurs m (side_tree s ns r),
      )

  module _ {os : List Node} (eo : length os ≡ length ns) {i : ℕ}
      (f : Became ns os i (shrunk (ahead s ns m) m (side_tree s ns r)) (side_tree s ns r)) where
    -- it was not there
    pub take_none : times m (side_tree s ns r) ≡ 0
        → Change s ns os r i (shrunk (ahead s ns m) m (side_tree s ns r)) (side_tree (opposite s) ns r)
    take_none z =
        let t = side_tree s ns r in
        let u = side_tree (opposite s) ns r in
        record {
          few = omega (arith, h.few);
          rep = f.rep;
          sorted = subst (Sorted (ahead s ns)) (sym in_order_take)
              (sorted_kept (ahead s ns) (λ x. not (eqb x m)) (in_order t) (h.sides s).sorted);
          even = balanced_shrunk (ahead s ns m) m t (h.sides s).even;
          other_rep = became_keeps ns os i _ t (of_side (opposite s) r) u f eo (h.sides s).apart
              (h.sides (opposite s)).rep;
          other_sorted = (h.sides (opposite s)).sorted;
          other_even = (h.sides (opposite s)).even;
          apart = λ k. omega (arith, (h.sides s).apart k, times_shrunk k (ahead s ns m) m t);
          free = λ k y.
              let g : times k t ≡ 0 = elim (cases_eq k m) [
                | inl e ↦ ap (λ j. times j t) e ∙ z
                | inr d ↦ omega (arith, times_take_other k d)
              ] in
              ap (λ n. n.count) (f.rest k g) ∙ (h.sides s).free k (omega arith);
          same = λ k p. f.kept k;
        }

    -- it was there, and its slot is empty now
    pub take_one : 0 < times m (side_tree s ns r) → (v : Node) → v.count ≡ 0
        → Change s ns (set os m v) r i (shrunk (ahead s ns m) m (side_tree s ns r)) (side_tree (opposite s) ns r)
    take_one p v vz =
        let t = side_tree s ns r in
        let u = side_tree (opposite s) ns r in
        let um : times m u ≡ 0 = omega (arith, (h.sides s).apart m) in
        record {
          few = omega (arith, h.few, length-set os m v);
          rep = rep_set os i (shrunk (ahead s ns m) m t) m v times_take_same f.rep;
          sorted = subst (Sorted (ahead s ns)) (sym in_order_take)
              (sorted_kept (ahead s ns) (λ x. not (eqb x m)) (in_order t) (h.sides s).sorted);
          even = balanced_shrunk (ahead s ns m) m t (h.sides s).even;
          other_rep = rep_set os (of_side (opposite s) r) u m v um
              (became_keeps ns os i _ t (of_side (opposite s) r) u f eo (h.sides s).apart (h.sides (opposite s)).rep);
          other_sorted = (h.sides (opposite s)).sorted;
          other_even = (h.sides (opposite s)).even;
          apart = λ k. omega (arith, (h.sides s).apart k, times_shrunk k (ahead s ns m) m t);
          free = λ k y. elim (cases_eq k m) [
            | inl e ↦ ap (λ j. (at (set os m v) j).count) e
                ∙ ap (λ n. n.count) (at_set_same os m v
                (omega (arith, in_rep ns (of_side s r) t m (h.sides s).rep p))) ∙ vz
            | inr d ↦
                let g = times_take_other k d in
                ap (λ n. n.count) (at_set_other os m k v d ∙ f.rest k (omega arith))
                ∙ (h.sides s).free k (omega arith)
          ];
          same = λ k p. ap (λ n. n.cents) (at_set_other os m k v
              (λ e. omega (
                arith,
                times_take_same,
                um,
                ap (λ j. times j (shrunk (ahead s ns m) m t) + times j u) e,
              ))) ∙ f.kept k;
        }
