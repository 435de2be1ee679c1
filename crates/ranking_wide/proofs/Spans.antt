-- Leaves one after another: what holds of the keys of all of them, and one leaf in place of another.
use Rattle.std.proofs.Common.{◌≡◌, ℕ, suc, ◌+◌, ◌<◌, ◌≤◌, ltb, List, [], ◌∷◌, ◌++◌, map, length, get_or, take, drop, count_by, sym, refl, ap, ◌∙◌, subst, arith}
use Rattle.std.specs.List.{AllByRecursion}
use Rattle.std.proofs.lemmas.List.Elements.{filter-append}
use Rattle.std.proofs.ByRecursion.{All-weaker, All-append}
use Rattle.std.proofs.lemmas.List.{append_assoc, set-get_or, set_split}
use Rattle.ranking_wide.specs.declared.leaf.Leaf.{Leaf}
use Rattle.ranking_wide.specs.Leaves.{part, laid, placed, without, from, Ascending, Filled, Spans, blank}
use Rattle.ranking_wide.proofs.Rising.{placed_after, placed_before, without_none, ascending_append, count_by_append, count_all, count_none}

pub laid_append : (fs bs : List Leaf) → laid (fs ++ bs) ≡ laid fs ++ laid bs
laid_append [] bs = refl
laid_append (l ∷ fs) bs = ap (λ ks. part l ++ ks) (laid_append fs bs) ∙ sym (append_assoc (part l) (laid fs) (laid bs))

pub from_append : (fs bs : List Leaf) (hi : ℕ) → from (fs ++ bs) hi ≡ from fs (from bs hi)
from_append [] bs hi = refl
from_append (l ∷ fs) bs hi = refl

pub spans_front : (fs bs : List Leaf) (hi : ℕ) → Spans (fs ++ bs) hi → Spans fs (from bs hi)
spans_front [] bs hi h = tt
spans_front (l ∷ fs) bs hi h =
    (subst (λ (n : ℕ). Filled l n) (from_append fs bs hi) h.0, spans_front fs bs hi h.1)

pub spans_back : (fs bs : List Leaf) (hi : ℕ) → Spans (fs ++ bs) hi → Spans bs hi
spans_back [] bs hi h = h
spans_back (l ∷ fs) bs hi h = spans_back fs bs hi h.1

pub spans_append : (fs bs : List Leaf) (hi : ℕ) → Spans fs (from bs hi) → Spans bs hi → Spans (fs ++ bs) hi
spans_append [] bs hi h g = g
spans_append (l ∷ fs) bs hi h g =
    (subst (λ (n : ℕ). Filled l n) (sym (from_append fs bs hi)) h.0, spans_append fs bs hi h.1 g)

-- the keys of leaves are between where they begin and where they end
pub spans_low : (ls : List Leaf) (hi : ℕ) → Spans ls hi → from ls hi ≤ hi
spans_low [] hi h = omega arith
spans_low (l ∷ ls) hi h = omega (arith, h.0.low, spans_low ls hi h.1)

pub spans_below : (ls : List Leaf) (hi : ℕ) → Spans ls hi → AllByRecursion (λ k. k < hi) (laid ls)
spans_below [] hi h = tt
spans_below (l ∷ ls) hi h =
    All-append (λ k. k < hi) (part l) (laid ls)
    (All-weaker _ (λ k. k < hi) (λ k g. omega (arith, g.1, spans_low ls hi h.1)) (part l) h.0.within)
    (spans_below ls hi h.1)

pub spans_above : (ls : List Leaf) (hi : ℕ) → Spans ls hi → AllByRecursion (λ k. from ls hi ≤ k) (laid ls)
spans_above [] hi h = tt
spans_above (l ∷ ls) hi h =
    All-append (λ k. l.low ≤ k) (part l) (laid ls)
    (All-weaker _ (λ k. l.low ≤ k) (λ k g. g.0) (part l) h.0.within)
    (All-weaker _ (λ k. l.low ≤ k) (λ k g. omega (arith, g, h.0.low)) (laid ls) (spans_above ls hi h.1))

pub spans_rise : (ls : List Leaf) (hi : ℕ) → Spans ls hi → Ascending (laid ls)
spans_rise [] hi h = tt
spans_rise (l ∷ ls) hi h =
    ascending_append (part l) (laid ls) (from ls hi) h.0.rises (spans_rise ls hi h.1)
    (All-weaker _ (λ k. k < from ls hi) (λ k g. g.1) (part l) h.0.within) (spans_above ls hi h.1)

-- a leaf, with those before it and those after it
pub around : (ls : List Leaf) (i : ℕ) → i < length ls → ls ≡ take i ls ++ get_or ls i blank ∷ drop (suc i) ls
around ls i p = sym (set-get_or ls i blank) ∙ set_split ls i (get_or ls i blank) p

module _ (fs bs : List Leaf) (l : Leaf) (hi : ℕ) (h : Spans (fs ++ l ∷ bs) hi) where
  pub this_filled : Filled l (from bs hi)
  this_filled = (spans_back fs (l ∷ bs) hi h).0

  before_low : AllByRecursion (λ k. k < l.low) (laid fs)
  before_low = spans_below fs l.low (spans_front fs (l ∷ bs) hi h)

  after_high : AllByRecursion (λ k. from bs hi ≤ k) (laid bs)
  after_high = spans_above bs hi (spans_back fs (l ∷ bs) hi h).1

  -- other leaves in its place
  module _ (ms : List Leaf) (g : Spans ms (from bs hi)) (e : (n : ℕ) → from ms n ≡ l.low) where
    pub spans_swap : Spans (fs ++ (ms ++ bs)) hi
    spans_swap =
        spans_append fs (ms ++ bs) hi
        (subst (λ (n : ℕ). Spans fs n) (sym (from_append ms bs hi ∙ e (from bs hi))) (spans_front fs (l ∷ bs) hi h))
        (spans_append ms bs hi g (spans_back fs (l ∷ bs) hi h).1)

    pub from_swap : (n : ℕ) → from (fs ++ (ms ++ bs)) n ≡ from (fs ++ l ∷ bs) n
    from_swap n =
        from_append fs (ms ++ bs) n ∙ ap (from fs) (from_append ms bs n ∙ e (from bs n)) ∙ sym (from_append fs (l ∷ bs) n)

  module _ (k : ℕ) (p : l.low ≤ k) (q : k < from bs hi) where
    pub placed_at : placed k (laid (fs ++ l ∷ bs)) ≡ laid fs ++ (placed k (part l) ++ laid bs)
    placed_at =
        ap (placed k) (laid_append fs (l ∷ bs))
        ∙ placed_after k (laid fs) (part l ++ laid bs) (All-weaker _ (λ x. x ≤ k) (λ x g. omega arith) (laid fs) before_low)
        ∙ ap (λ ks. laid fs ++ ks)
        (placed_before k (part l) (laid bs) (All-weaker _ (λ x. k < x) (λ x g. omega arith) (laid bs) after_high))

    pub without_at : without k (laid (fs ++ l ∷ bs)) ≡ laid fs ++ (without k (part l) ++ laid bs)
    without_at =
        ap (without k) (laid_append fs (l ∷ bs)) ∙ filter-append _ (laid fs) (part l ++ laid bs)
        ∙ ap (λ ks. ks ++ without k (part l ++ laid bs))
        (without_none k (laid fs) (All-weaker _ (λ x. x ≡ k → ⊥) (λ x g z. omega arith) (laid fs) before_low))
        ∙ ap (λ ks. laid fs ++ ks)
        (filter-append _ (part l) (laid bs)
        ∙ ap (λ ks. without k (part l) ++ ks)
        (without_none k (laid bs) (All-weaker _ (λ x. x ≡ k → ⊥) (λ x g z. omega arith) (laid bs) after_high)))

    pub count_at : count_by (λ x. ltb x k) (laid (fs ++ l ∷ bs)) ≡ length (laid fs) + count_by (λ x. ltb x k) (part l)
    count_at =
        ap (count_by (λ x. ltb x k)) (laid_append fs (l ∷ bs))
        ∙ count_by_append (λ x. ltb x k) (laid fs) (part l ++ laid bs)
        ∙ omega (
          arith,
          count_all k (laid fs) (All-weaker _ (λ x. x < k) (λ x g. omega arith) (laid fs) before_low),
          count_by_append (λ x. ltb x k) (part l) (laid bs),
          count_none k (laid bs) (All-weaker _ (λ x. k ≤ x) (λ x g. omega arith) (laid bs) after_high),
        )

pub few_each : (ls : List Leaf) (hi : ℕ) → Spans ls hi → AllByRecursion (λ n. n ≤ 32) (map (λ l. length (part l)) ls)
few_each [] hi h = tt
few_each (l ∷ ls) hi h = (h.0.few, few_each ls hi h.1)
