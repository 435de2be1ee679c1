-- A book, after a member has come in or gone.
use Rattle.std.proofs.Common.{◌≡◌, ℕ, ◌/◌, ◌^◌, ◌<◌, ◌≤◌, List, map, length, get_or, set, vec_items, Some, sym, refl, ap, ◌∙◌, subst, arith}
use Rattle.std.specs.List.{AllByRecursion}
use Rattle.std.proofs.lemmas.List.{length-set}
use Rattle.std.proofs.lemmas.List.Sums.{count_by-le-length}
use Rattle.orders.specs.declared.entry.Entry.{Entry}
use Rattle.orders.specs.declared.entry.Entry.TheVariants.{Nothing}
use Rattle.orders.specs.declared.money.Cents.{Cents}
use Rattle.ranking.specs.declared.ranked.Side.{Side}
use Rattle.ranking.specs.declared.ranked.Side.TheVariants.{Buyers, Sellers}
use Rattle.ranking.specs.declared.ranked.Ranked.{Ranked}
use Rattle.ranking_wide.specs.declared.tree.Tree.{Tree}
use Rattle.ranking.specs.declared.sides.Sides.{Sides}
use Rattle.ranking_wide.specs.declared.book.Book.{Book}
use Rattle.ranking.specs.Books.{ranked_as}
use Rattle.ranking_wide.specs.Keys.{ranked_of, worth}
use Rattle.ranking_wide.specs.Leaves.{placed, without}
use Rattle.ranking.specs.Lists.{less}
use Rattle.ranking.specs.Ranks.{insert, on_side, own}
use Rattle.ranking.specs.Sides.{of_side, opposite, with_side}
use Rattle.ranking_wide.specs.Sound.{entry_on, is_on, Kept, mark_on, member_of, Sound}
use Rattle.ranking_wide.specs.Trees.{Held, keys_of, leaves_of, Roomy}
use Rattle.ranking_wide.proofs.Ordering.{map_kept, map_placed}
use Rattle.ranking_wide.proofs.Sounds.{grown_from, sound_from}
use Rattle.ranking_wide.proofs.Spans.{spans_below}
use Rattle.ranking_wide.proofs.Standing.{by_side, kept_other, kept_put, kept_take, key_new, keys_left, mark_nothing, mark_opposite, roomy, some_mark}

-- the sides of a pair of which one has changed
pub same_side : {T : Type 0} (s : Side) (x : T) (p : Sides T) → of_side s (with_side s x p) ≡ x
same_side Buyers x p = refl
same_side Sellers x p = refl

pub other_side : {T : Type 0} (s : Side) (x : T) (p : Sides T) → of_side (opposite s) (with_side s x p) ≡ of_side (opposite s) p
other_side Buyers x p = refl
other_side Sellers x p = refl

module _ (b : Book) (s : Side) where
  abbrev es : List Entry
  es = vec_items b.entries

  h : Sound b.trees es
  h = sound_from b.sound

  pub kept : Kept s (of_side s b.trees) es
  kept = h.sides s

  pub below_all : AllByRecursion (λ k. k < 2 ^ 48) (keys_of (of_side s b.trees))
  below_all = spans_below (leaves_of (of_side s b.trees)) (2 ^ 48) (grown_from (of_side s b.trees).grown).spans

  pub few_keys : length (keys_of (of_side s b.trees)) ≤ 65535
  few_keys = omega (arith, (h.sides s).many, count_by-le-length (is_on s) es, h.few)

  pub listed_other : (t : Tree) → map (ranked_of (opposite s)) (keys_of (of_side (opposite s) (with_side s t b.trees)))
      ≡ map (ranked_of (opposite s)) (keys_of (of_side (opposite s) b.trees))
  listed_other t = ap (λ (u : Tree). map (ranked_of (opposite s)) (keys_of u)) (other_side s t b.trees)

  module _ (m k : ℕ) (c : Cents) (p : m < length es) (back : ranked_of s k ≡ ranked_as m c) where
    ek : member_of k ≡ m
    ek = ap (λ (x : Ranked). x.member) back

    ec : worth s (k / 65536) ≡ c.0
    ec = ap (λ (x : Ranked). x.cents.0) back

    pub ready : get_or es m Nothing ≡ Nothing → Roomy (of_side s b.trees) × AllByRecursion (λ j. j ≡ k → ⊥) (keys_of (of_side s b.trees))
    ready z =
        let g = ap (mark_on s) z ∙ mark_nothing s in
        (roomy s (of_side s b.trees) es m k c (h.sides s) p g ek ec, key_new s (of_side s b.trees) es m k c (h.sides s) p g ek ec)

    module _ (t : Tree) where
      pub sound_put : get_or es m Nothing ≡ Nothing → Held (of_side s b.trees) t (placed k (keys_of (of_side s b.trees)))
          → Sound (with_side s t b.trees) (set es m (entry_on s c))
      sound_put z w =
          record {
            sides = by_side s (λ x. Kept x (of_side x (with_side s t b.trees)) (set es m (entry_on s c)))
                (subst (λ (u : Tree). Kept s u (set es m (entry_on s c))) (sym (same_side s t b.trees))
                (kept_put s (of_side s b.trees) es m k c (h.sides s) p (ap (mark_on s) z ∙ mark_nothing s) ek ec t w))
                (subst (λ (u : Tree). Kept (opposite s) u (set es m (entry_on s c))) (sym (other_side s t b.trees))
                (kept_other (opposite s) (of_side (opposite s) b.trees) es m (entry_on s c) (h.sides (opposite s)) p
                (mark_opposite s c ∙ sym (ap (mark_on (opposite s)) z ∙ mark_nothing (opposite s)))));
            few = omega (arith, h.few, length-set es m (entry_on s c));
          }

      pub sound_take : on_side s (get_or es m Nothing) ≡ Some c → k < 2 ^ 48 → Held (of_side s b.trees) t (without k (keys_of (of_side s b.trees)))
          → Sound (with_side s t b.trees) (set es m Nothing)
      sound_take z q w =
          let g = some_mark s (get_or es m Nothing) c z in
          record {
            sides = by_side s (λ x. Kept x (of_side x (with_side s t b.trees)) (set es m Nothing))
                (subst (λ (u : Tree). Kept s u (set es m Nothing)) (sym (same_side s t b.trees))
                (kept_take s (of_side s b.trees) es m k c.0 (h.sides s) p q g.0 ek ec t w))
                (subst (λ (u : Tree). Kept (opposite s) u (set es m Nothing)) (sym (other_side s t b.trees))
                (kept_other (opposite s) (of_side (opposite s) b.trees) es m Nothing (h.sides (opposite s)) p
                (mark_nothing (opposite s) ∙ sym g.1)));
            few = omega (arith, h.few, length-set es m Nothing);
          }

      pub listed_put : k < 2 ^ 48 → Held (of_side s b.trees) t (placed k (keys_of (of_side s b.trees)))
          → map (ranked_of s) (keys_of (of_side s (with_side s t b.trees))) ≡ insert s own (ranked_as m c) (map (ranked_of s) (keys_of (of_side s b.trees)))
      listed_put q w =
          ap (λ (u : Tree). map (ranked_of s) (keys_of u)) (same_side s t b.trees) ∙ ap (map (ranked_of s)) w.keys ∙ map_placed s k (keys_of (of_side s b.trees)) q below_all
          ∙ ap (λ x. insert s own x (map (ranked_of s) (keys_of (of_side s b.trees)))) back

      pub listed_take : on_side s (get_or es m Nothing) ≡ Some c → k < 2 ^ 48 → Held (of_side s b.trees) t (without k (keys_of (of_side s b.trees)))
          → map (ranked_of s) (keys_of (of_side s (with_side s t b.trees))) ≡ less m (map (ranked_of s) (keys_of (of_side s b.trees)))
      listed_take z q w =
          ap (λ (u : Tree). map (ranked_of s) (keys_of u)) (same_side s t b.trees) ∙ ap (map (ranked_of s))
          (keys_left s (of_side s b.trees) es m k c.0 (h.sides s) p q (some_mark s (get_or es m Nothing) c z).0 ek ec t w)
          ∙ map_kept s m (keys_of (of_side s b.trees))
