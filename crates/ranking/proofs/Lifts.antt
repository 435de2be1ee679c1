-- The steps of a rotation on the slots.
use Rattle.std.proofs.Common.{◌≡◌, ℕ, ◌+◌, ◌*◌, ◌<◌, ◌≤◌, ltb, List, length, sym, ap, ◌∙◌, subst, arith}
use Rattle.ranking.specs.declared.node.Node.{Node}
use Rattle.ranking.specs.declared.node.Hand.{Hand}
use Rattle.ranking.specs.Tree.{Tree, node, at}
use Rattle.std.proofs.lemmas.Bool.{cond-true, cond-false, lt-ltb, le-ltb}
use Rattle.ranking.specs.Balance.{fork, inner_of, outer_of, top_of, inner_at, outer_at, single, double, lifted, balanced, weight}
use Rattle.ranking.specs.Slots.{Rep, size_at, Parts, HeldParts, Trio, Became}
use Rattle.ranking.proofs.Reps.{became_keeps, open_rep, Opened, size_rep, size_fork, times_fork}

-- what `join` ensures
abbrev pub Joins : Hand → List Node → List Node → ℕ → ℕ → ℕ → Type 0
Joins h ns os m i j = (t u : Tree) → Parts ns m i j t u → Became ns os m (fork h t m u) (node t m u)

pub held : {ns : List Node} {m i j : ℕ} {t u : Tree} → Parts ns m i j t u → HeldParts ns m i j
held {t = t} {u = u} p = record { left = t; right = u; parts = p }

-- the three joins of a double rotation
module _ (h : Hand) {ns : List Node} {m x i j o : ℕ} {t u v : Tree} (c : Trio ns m x i j o t u v)
    (some : j ≡ 65535 → ⊥) where
  low : Opened h ns j u
  low = open_rep h ns j u c.second some

  pub trio_first : {a : ℕ} → a ≡ inner_at h (at ns j) → Parts ns m i a t (inner_of h u)
  trio_first e =
      record {
        first = c.first;
        second = subst (λ (y : ℕ). Rep ns y (inner_of h u)) (sym e) low.inner;
        apart = λ k. omega (arith, c.apart k, low.times_is k);
        within = c.within.0;
        below = c.below.0;
        fits = omega (arith, c.fits, low.size_is);
      }

  module _ {a b : ℕ} (ea : a ≡ inner_at h (at ns j)) (eb : b ≡ outer_at h (at ns j)) {os : List Node}
      (eo : length os ≡ length ns) (joins : Joins h ns os m i a) where
    near : Became ns os m (fork h t m (inner_of h u)) (node t m (inner_of h u))
    near = joins t (inner_of h u) (trio_first ea)

    pub trio_second : Parts os x b o (outer_of h u) v
    trio_second =
        record {
          first = became_keeps ns os m (fork h t m (inner_of h u)) (node t m (inner_of h u)) b (outer_of h u) near eo
              (λ k. omega (arith, c.apart k, low.times_is k))
              (subst (λ (y : ℕ). Rep ns y (outer_of h u)) (sym eb) low.outer);
          second = became_keeps ns os m (fork h t m (inner_of h u)) (node t m (inner_of h u)) o v near eo
              (λ k. omega (arith, c.apart k, low.times_is k)) c.third;
          apart = λ k. omega (arith, c.apart k, low.times_is k);
          within = omega (arith, c.within.1);
          below = c.below.1;
          fits = omega (arith, c.fits, low.size_is);
        }

    module _ {qs : List Node} (eq : length qs ≡ length os) (joins₂ : Joins h os qs x b o) where
      far : Became os qs x (fork h (outer_of h u) x v) (node (outer_of h u) x v)
      far = joins₂ (outer_of h u) v trio_second

      pub trio_third : Parts qs j m x (fork h t m (inner_of h u)) (fork h (outer_of h u) x v)
      trio_third =
          record {
            first = became_keeps os qs x (fork h (outer_of h u) x v) (node (outer_of h u) x v) m
                (fork h t m (inner_of h u)) far eq
                (λ k. omega (arith, c.apart k, low.times_is k, times_fork k h t m (inner_of h u))) near.rep;
            second = far.rep;
            apart = λ k. omega (
              arith,
              c.apart k,
              low.times_is k,
              times_fork k h t m (inner_of h u),
              times_fork k h (outer_of h u) x v,
            );
            within = omega (arith, low.within);
            below = low.below;
            fits = omega (arith, c.fits, low.size_is, size_fork h t m (inner_of h u), size_fork h (outer_of h u) x v);
          }

      pub trio_last : {ps : List Node} → Joins h qs ps j m x → Became ns ps j (double h t m u x v) (node (node t m u) x v)
      trio_last {ps} joins₃ =
          let f : Became qs ps j (fork h (fork h t m (inner_of h u)) j (fork h (outer_of h u) x v))
          (node (fork h t m (inner_of h u)) j (fork h (outer_of h u) x v))
          = joins₃ (fork h t m (inner_of h u)) (fork h (outer_of h u) x v) trio_third in
          record {
            rep = subst (λ (y : ℕ). Rep ps j (fork h (fork h t m (inner_of h u)) y (fork h (outer_of h u) x v)))
                (sym low.top) f.rep;
            rest = λ k z.
                f.rest k (omega (
                  arith,
                  low.times_is k,
                  times_fork k h t m (inner_of h u),
                  times_fork k h (outer_of h u) x v,
                ))
                ∙ far.rest k (omega (arith, low.times_is k)) ∙ near.rest k (omega (arith, low.times_is k));
            kept = λ k. f.kept k ∙ far.kept k ∙ near.kept k;
          }

-- a far child that goes up: the two joins of a single rotation, or a double one
module _ (h : Hand) {ns : List Node} {m i x : ℕ} {t u : Tree} (p : Parts ns m i x t u) (some : x ≡ 65535 → ⊥) where
  high : Opened h ns x u
  high = open_rep h ns x u p.second some

  module _ {a b : ℕ} (ea : a ≡ inner_at h (at ns x)) (eb : b ≡ outer_at h (at ns x)) where
    pub lift_inner : Rep ns a (inner_of h u)
    lift_inner = subst (λ (y : ℕ). Rep ns y (inner_of h u)) (sym ea) high.inner

    pub lift_outer : Rep ns b (outer_of h u)
    lift_outer = subst (λ (y : ℕ). Rep ns y (outer_of h u)) (sym eb) high.outer

    pub lift_trio : Trio ns m x i a b t (inner_of h u) (outer_of h u)
    lift_trio =
        record {
          first = p.first;
          second = lift_inner;
          third = lift_outer;
          apart = λ k. omega (arith, p.apart k, high.times_is k);
          within = (p.within, high.within);
          below = (p.below, high.below);
          fits = omega (arith, p.fits, high.size_is);
        }

    pub lift_first : Parts ns m i a t (inner_of h u)
    lift_first =
        record {
          first = p.first;
          second = lift_inner;
          apart = λ k. omega (arith, p.apart k, high.times_is k);
          within = p.within;
          below = p.below;
          fits = omega (arith, p.fits, high.size_is);
        }

    -- the test of the code is that of the definition
    pub lift_test : {v w : ℕ} → v ≡ size_at ns a + 1 → w ≡ size_at ns b + 1
        → (v ≡ weight (inner_of h u)) × (w ≡ weight (outer_of h u))
    lift_test ev ew = (
      omega (arith, ev, size_rep ns a (inner_of h u) lift_inner),
      omega (arith, ew, size_rep ns b (outer_of h u) lift_outer),
    )

    pub lift_double : {v w : ℕ} → v ≡ size_at ns a + 1 → w ≡ size_at ns b + 1 → 2 * w ≤ v → {os : List Node} {r : ℕ}
        → Became ns os r (double h t m (inner_of h u) x (outer_of h u)) (node (node t m (inner_of h u)) x (outer_of h u))
        → Became ns os r (lifted h t m u) (node t m u)
    unfolding lifted
    lift_double ev ew le {os} {r} f =
        let q = lift_test ev ew in
        record {
          rep = subst (λ (z : Tree). Rep os r z)
              (ap (λ y. double h t m (inner_of h u) y (outer_of h u)) (sym high.top)
              ∙ sym (cond-false (ltb (weight (inner_of h u)) (2 * weight (outer_of h u))) (single h t m u)
              (double h t m (inner_of h u) (top_of u) (outer_of h u)) (le-ltb _ _ (omega arith)))) f.rep;
          rest = λ k z. f.rest k (omega (arith, high.times_is k));
          kept = f.kept;
        }

    module _ {os : List Node} (eo : length os ≡ length ns) (joins : Joins h ns os m i a) where
      low' : Became ns os m (fork h t m (inner_of h u)) (node t m (inner_of h u))
      low' = joins t (inner_of h u) lift_first

      pub lift_second : Parts os x m b (fork h t m (inner_of h u)) (outer_of h u)
      lift_second =
          record {
            first = low'.rep;
            second = became_keeps ns os m (fork h t m (inner_of h u)) (node t m (inner_of h u)) b (outer_of h u) low' eo
                (λ k. omega (arith, p.apart k, high.times_is k)) lift_outer;
            apart = λ k. omega (arith, p.apart k, high.times_is k, times_fork k h t m (inner_of h u));
            within = omega (arith, high.within);
            below = high.below;
            fits = omega (arith, p.fits, high.size_is, size_fork h t m (inner_of h u));
          }

      pub lift_last : {v w : ℕ} → v ≡ size_at ns a + 1 → w ≡ size_at ns b + 1 → v < 2 * w → {qs : List Node}
          → Joins h os qs x m b → Became ns qs x (lifted h t m u) (node t m u)
      unfolding lifted
      lift_last ev ew lt {qs} joins₂ =
          let q = lift_test ev ew in
          let f : Became os qs x (fork h (fork h t m (inner_of h u)) x (outer_of h u))
          (node (fork h t m (inner_of h u)) x (outer_of h u))
          = joins₂ (fork h t m (inner_of h u)) (outer_of h u) lift_second in
          record {
            rep = subst (λ (z : Tree). Rep qs x z)
                (ap (λ y. fork h (fork h t m (inner_of h u)) y (outer_of h u)) (sym high.top)
                ∙ sym (cond-true (ltb (weight (inner_of h u)) (2 * weight (outer_of h u))) (single h t m u)
                (double h t m (inner_of h u) (top_of u) (outer_of h u)) (lt-ltb _ _ (omega arith)))) f.rep;
            rest = λ k z.
                f.rest k (omega (arith, high.times_is k, times_fork k h t m (inner_of h u)))
                ∙ low'.rest k (omega (arith, high.times_is k));
            kept = λ k. f.kept k ∙ low'.kept k;
          }

-- which way `balance` goes
module _ (h : Hand) {ns : List Node} {m i j v w : ℕ} {t u : Tree} (p : Parts ns m i j t u) (ev : v ≡ size_at ns i + 1)
    (ew : w ≡ size_at ns j + 1) where
  pub balance_heavy : 3 * v < w → {os : List Node} {r : ℕ} → Became ns os r (lifted h t m u) (node t m u)
      → Became ns os r (balanced h t m u) (node t m u)
  unfolding balanced
  balance_heavy lt {os} {r} b =
      record {
        rep = subst (λ (z : Tree). Rep os r z)
            (sym (cond-true (ltb (3 * weight t) (weight u)) _ _
            (lt-ltb _ _ (omega (arith, size_rep ns i t p.first, size_rep ns j u p.second))))) b.rep;
        rest = b.rest;
        kept = b.kept;
      }

  pub balance_light : w ≤ 3 * v → {os : List Node} {r : ℕ} → Became ns os r (fork h t m u) (node t m u)
      → Became ns os r (balanced h t m u) (node t m u)
  unfolding balanced
  balance_light le {os} {r} b =
      record {
        rep = subst (λ (z : Tree). Rep os r z)
            (sym (cond-false (ltb (3 * weight t) (weight u)) _ _
            (le-ltb _ _ (omega (arith, size_rep ns i t p.first, size_rep ns j u p.second))))) b.rep;
        rest = b.rest;
        kept = b.kept;
      }
