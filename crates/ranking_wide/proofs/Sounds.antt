-- There is one proof at most of what always holds of a book.
use Rattle.std.proofs.Common.{ℕ, ◌<◌, ◌≤◌, List, [], ◌∷◌}
use mathlib.Core.Logic.{∥∥₁_elim}
use mathlib.Core.HLevel.{×_prop}
use native.Mathlib.Bridge.{le_prop}
use native.Mathlib.Nat.{ℕ_set}
use Rattle.std.specs.List.{AllByRecursion}
use Rattle.orders.specs.declared.entry.Entry.{Entry}
use Rattle.ranking_wide.specs.declared.leaf.Leaf.{Leaf}
use Rattle.ranking.specs.declared.ranked.Side.{Side}
use Rattle.ranking.specs.declared.sides.Sides.{Sides}
use Rattle.ranking_wide.specs.declared.tree.Tree.{Tree}
use Rattle.ranking_wide.specs.Leaves.{Grown, Ascending, Filled, from, part, Spans}
use Rattle.ranking_wide.specs.Sound.{Kept, Sound}
use Rattle.ranking_wide.specs.Trees.{keys_of}

all_prop : (P : ℕ → Type 0) → ((x : ℕ) → IsProp (P x)) → (xs : List ℕ) → IsProp (AllByRecursion P xs)
all_prop P h [] = λ x y j. tt
all_prop P h (x ∷ xs) = ×_prop (h x) (all_prop P h xs)

ascending_prop : (xs : List ℕ) → IsProp (Ascending xs)
ascending_prop [] = λ x y j. tt
ascending_prop (x ∷ xs) = ×_prop (all_prop (λ y. x < y) (λ y. le_prop) xs) (ascending_prop xs)

filled_prop : (l : Leaf) (hi : ℕ) → IsProp (Filled l hi)
filled_prop l hi x y =
    λ j. record {
      few = le_prop x.few y.few j;
      low = le_prop x.low y.low j;
      within = all_prop (λ k. (l.low ≤ k) × (k < hi)) (λ k. ×_prop le_prop le_prop) (part l) x.within y.within j;
      rises = ascending_prop (part l) x.rises y.rises j;
    }

spans_prop : (ls : List Leaf) (hi : ℕ) → IsProp (Spans ls hi)
spans_prop [] hi = λ x y j. tt
spans_prop (l ∷ ls) hi = ×_prop (filled_prop l (from ls hi)) (spans_prop ls hi)

grown_prop : (ls : List Leaf) (most places : ℕ) → IsProp (Grown ls most places)
grown_prop ls most places x y =
    λ j. record {
      spans = spans_prop ls _ x.spans y.spans j;
      root = ℕ_set _ _ x.root y.root j;
      fits = le_prop x.fits y.fits j;
      place = le_prop x.place y.place j;
    }

pub grown_from : {ls : List Leaf} {most places : ℕ} → ∥ Grown ls most places ∥₁ → Grown ls most places
grown_from h = ∥∥₁_elim h (grown_prop _ _ _) (λ x. x)

kept_prop : (s : Side) (t : Tree) (es : List Entry) → IsProp (Kept s t es)
kept_prop s t es x y =
    λ j. record {
      stands = all_prop _ (λ k. ℕ_set _ _) (keys_of t) x.stands y.stands j;
      once = λ m. ℕ_set _ _ (x.once m) (y.once m) j;
      many = ℕ_set _ _ x.many y.many j;
      place = le_prop x.place y.place j;
      narrow = le_prop x.narrow y.narrow j;
    }

pub sound_from : {ts : Sides Tree} {es : List Entry} → ∥ Sound ts es ∥₁ → Sound ts es
sound_from h =
    ∥∥₁_elim h
    (λ x y j. record {
      sides = λ s. kept_prop s _ _ (x.sides s) (y.sides s) j;
      few = le_prop x.few y.few j;
    })
    (λ x. x)
