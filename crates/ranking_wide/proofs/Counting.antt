-- Keys in the first leaves and in the rest, and the leaf of a key.
use Rattle.std.proofs.Common.{◌≡◌, ℕ, zero, suc, ◌+◌, ◌-◌, ◌*◌, ◌<◌, ◌≤◌, true, false, cond, leb, ltb, List, [], ◌∷◌, ◌++◌, length, get_or, take, drop, zip, Some, None, count_by, position, sum_by, sym, refl, ap, ◌∙◌, subst, inl, inr, arith}
use Rattle.std.specs.List.{position_or_len, slice_get}
use Rattle.std.specs.List.Sorted.{IsPartitionedBy, IsPartitionPoint}
use Rattle.std.proofs.lemmas.Bool.{cases_lt, cond-true, lt-ltb}
use Rattle.std.proofs.lemmas.Bool.Decides.{nat_tests}
use Rattle.std.proofs.lemmas.List.{drop_more, get_or_default, get_or-drop, get_or_read, length-append, length-drop, take-append-drop}
use Rattle.std.proofs.lemmas.List.Quantifiers.{position-Some}
use Rattle.std.proofs.lemmas.List.Sorted.{IsPartitionedBy-leb}
use Rattle.std.proofs.lemmas.List.Sums.{fails_before_first, sum_by-cons}
use Rattle.std.proofs.lemmas.Option.{none-some}
use Rattle.std.proofs.lemmas.Slice.Zip.{get_or-zip, length-zip}
use Rattle.ranking_wide.specs.declared.leaf.Leaf.{Leaf}
use Rattle.ranking_wide.specs.Leaves.{part, laid, fit, from, Spans, blank, Found}
use Rattle.ranking_wide.proofs.Growth.{crowded}
use Rattle.ranking_wide.proofs.Places.{nth_back, nth_front}
use Rattle.ranking_wide.proofs.Spans.{around, count_at, laid_append}

pub from_drop : (ls : List Leaf) (i hi : ℕ) → i < length ls → from (drop i ls) hi ≡ (get_or ls i blank).low
from_drop [] i hi p = absurd (omega arith)
from_drop (l ∷ ls) zero hi p = refl
from_drop (l ∷ ls) (suc i) hi p = from_drop ls i hi (omega arith)

pub from_past : (ls : List Leaf) (i hi : ℕ) → length ls ≤ i → from (drop i ls) hi ≡ hi
from_past [] zero hi p = refl
from_past [] (suc i) hi p = refl
from_past (l ∷ ls) zero hi p = absurd (omega arith)
from_past (l ∷ ls) (suc i) hi p = from_past ls i hi (omega arith)

-- a root of leaves
pub root_there : (ls : List Leaf) → from ls 1 ≡ 0 → 0 < length ls
root_there [] e = absurd (omega arith)
root_there (l ∷ ls) e = omega arith

-- low numbers rise
low_first : (l : Leaf) (ls : List Leaf) (hi : ℕ) → Spans (l ∷ ls) hi → (j : ℕ) → j < length ls → l.low ≤ (get_or ls j blank).low
low_first l [] hi h j p = absurd (omega arith)
low_first l (m ∷ ls) hi h zero p = h.0.low
low_first l (m ∷ ls) hi h (suc j) p = omega (arith, h.0.low, low_first m ls hi h.1 j (omega arith))

low_rises : (ls : List Leaf) (hi : ℕ) → Spans ls hi → (i j : ℕ) → i ≤ j → j < length ls → (get_or ls i blank).low ≤ (get_or ls j blank).low
low_rises [] hi h i j p q = absurd (omega arith)
low_rises (l ∷ ls) hi h zero zero p q = omega arith
low_rises (l ∷ ls) hi h zero (suc j) p q = low_first l ls hi h j (omega arith)
low_rises (l ∷ ls) hi h (suc i) zero p q = absurd (omega arith)
low_rises (l ∷ ls) hi h (suc i) (suc j) p q = low_rises ls hi h.1 i j (omega arith) (omega arith)

-- the low numbers, which a key is searched among
pub lows_parted : (ls : List Leaf) (hi k : ℕ) → Spans ls hi → IsPartitionedBy (λ (l : Leaf). leb l.low k) ls
lows_parted ls hi k h =
    IsPartitionedBy-leb (λ (l : Leaf). l.low) ls k
    (λ i j d p q. omega (
      arith,
      low_rises ls hi h i j p q,
      ap (λ (l : Leaf). l.low) (get_or_default ls i d blank (omega arith)),
      ap (λ (l : Leaf). l.low) (get_or_default ls j d blank q),
    ))

-- the leaf before the first whose low number is above a key
module _ (ls : List Leaf) (k hi i : ℕ) (root : from ls 1 ≡ 0) (below : k < hi) (bound : i ≤ length ls)
    (parted : IsPartitionPoint (λ (l : Leaf). leb l.low k ≡ true) (λ (l : Leaf). leb l.low k ≡ false) ls i) where
  pub some_low : 1 ≤ i
  some_low =
      elim (cases_lt 0 i) [
        | inl p ↦ omega arith
        | inr p ↦ absurd (lt_leb_false (parted.1 0 blank (omega arith) (root_there ls root)) (first_low ls root))
      ]
    where
      first_low : (ls : List Leaf) → from ls 1 ≡ 0 → (get_or ls 0 blank).low ≤ k
      first_low [] e = omega arith
      first_low (l ∷ ls) e = omega arith

      lt_leb_false : {n : ℕ} → leb n k ≡ false → n ≤ k → ⊥
      lt_leb_false e p = grind (arith, nat_tests)

  pub found_by : Found k ls hi (i - 1)
  found_by =
      record {
        inside = omega (arith, some_low);
        low = leb_le (parted.0 (i - 1) blank (omega arith) (omega (arith, some_low)));
        next = elim (cases_lt i (length ls)) [
          | inl g ↦ subst (λ (j : ℕ). k < from (drop j ls) hi) (sym e)
              (omega (arith, from_drop ls i hi g, leb_lt (parted.1 i blank (omega arith) g)))
          | inr g ↦ subst (λ (j : ℕ). k < from (drop j ls) hi) (sym e) (omega (arith, from_past ls i hi g))
        ];
      }
    where
      e : suc (i - 1) ≡ i
      e = omega (arith, some_low)

      leb_le : {n : ℕ} → leb n k ≡ true → n ≤ k
      leb_le q = grind (arith, nat_tests)

      leb_lt : {n : ℕ} → leb n k ≡ false → k < n
      leb_lt q = grind (arith, nat_tests)

pub sum_laid : (ls : List Leaf) → sum_by (λ (l : Leaf). length (part l)) ls ≡ length (laid ls)
sum_laid [] = refl
sum_laid (l ∷ ls) =
    sum_by-cons (λ (m : Leaf). length (part m)) l ls ∙ ap (λ n. length (part l) + n) (sum_laid ls)
    ∙ sym (length-append (part l) (laid ls))

-- a leaf as it is read
module _ (ls : List Leaf) (i : ℕ) (p : i < length ls) (l : Leaf) (e : l ≡ get_or ls i l) where
  rest : drop i ls ≡ l ∷ drop (i + 1) ls
  rest = drop_more ls i l p ∙ ap (λ z. z ∷ drop (i + 1) ls) (sym e)

  pub key_here : (j x : ℕ) → j < length (part l) → x ≡ get_or (part l) j x → Some x ≡ slice_get (laid (drop i ls)) j
  key_here j x q r =
      ap Some r ∙ sym (nth_front (part l) (laid (drop (i + 1) ls)) j x q) ∙ ap (λ zs. slice_get (laid zs) j) (sym rest)

  pub key_next : (j : ℕ) → length (part l) ≤ j → slice_get (laid (drop (i + 1) ls)) (j - length (part l)) ≡ slice_get (laid (drop i ls)) j
  key_next j q =
      let g : length (part l) + (j - length (part l)) ≡ j = omega arith in
      sym (nth_back (part l) (laid (drop (i + 1) ls)) (j - length (part l)))
      ∙ ap (slice_get (part l ++ laid (drop (i + 1) ls))) g ∙ ap (λ zs. slice_get (laid zs) j) (sym rest)

  module _ (hi : ℕ) (h : Spans ls hi) where
    pub count_sum : (k : ℕ) → Found k ls hi i
        → length (laid (take i ls)) + count_by (λ x. ltb x k) (part l) ≡ count_by (λ x. ltb x k) (laid ls)
    count_sum k f =
        ap (λ (z : Leaf). length (laid (take i ls)) + count_by (λ x. ltb x k) (part z)) (get_or_read ls i l p e blank)
        ∙ sym (count_at (take i ls) (drop (suc i) ls) (get_or ls i blank) hi
        (subst (λ (zs : List Leaf). Spans zs hi) (around ls i p) h) k f.low f.next)
        ∙ ap (λ zs. count_by (λ x. ltb x k) (laid zs)) (sym (around ls i p))

pub count_front : (ls : List Leaf) (i : ℕ) → length (laid (take i ls)) ≤ length (laid ls)
count_front ls i =
    omega (
      arith,
      ap (λ zs. length (laid zs)) (take-append-drop i ls),
      ap length (laid_append (take i ls) (drop i ls)),
      length-append (laid (take i ls)) (laid (drop i ls)),
    )

-- neighbours, and those of them that fit into one leaf
pair_at : (ls : List Leaf) (j : ℕ) → suc j < length ls → get_or (zip ls (drop 1 ls)) j (blank, blank) ≡ (get_or ls j blank, get_or ls (suc j) blank)
pair_at ls j p =
    get_or-zip ls (drop 1 ls) j (blank, blank) (omega arith) (omega (arith, length-drop 1 ls))
    ∙ ap (λ (z : Leaf). (get_or ls j blank, z)) (get_or-drop 1 ls j blank ∙ ap (λ n. get_or ls n blank) (omega arith))

pairs_long : (ls : List Leaf) → length (zip ls (drop 1 ls)) ≡ length ls - 1
pairs_long ls = length-zip ls (drop 1 ls) ∙ omega (arith, length-drop 1 ls)

fits_by : (p : Leaf × Leaf) → fit p ≡ true → length (part p.0) + length (part p.1) ≤ 32
fits_by p e = grind (arith, nat_tests)

fits_not : (p : Leaf × Leaf) → fit p ≡ false → 32 < length (part p.0) + length (part p.1)
fits_not p e = grind (arith, nat_tests)

pub thin_is : (ls : List Leaf) (i : ℕ) → Some i ≡ position fit (zip ls (drop 1 ls))
    → (suc i < length ls) × (length (part (get_or ls i blank)) + length (part (get_or ls (suc i) blank)) ≤ 32)
thin_is ls i e =
    let h = position-Some fit (zip ls (drop 1 ls)) i (blank, blank) (sym e) in
    let p : suc i < length ls = omega (arith, h.0, pairs_long ls) in
    (p, fits_by (get_or ls i blank, get_or ls (suc i) blank) (ap fit (sym (pair_at ls i p)) ∙ h.1))

-- where there is no place for another leaf, two neighbours fit into one
pub thin_there : (ls : List Leaf) (hi n : ℕ) → Spans ls hi → from ls 1 ≡ 0 → None ≡ position fit (zip ls (drop 1 ls))
    → n ≤ length ls → 2 * length (laid ls) + 33 < 33 * n → ⊥
thin_there ls hi n h r e a b = omega (arith, crowded ls hi h (root_there ls r) (λ j q. all j q))
  where
    none_at : (m : ℕ) → None ≡ cond (ltb (position_or_len fit (zip ls (drop 1 ls))) m) (Some (position_or_len fit (zip ls (drop 1 ls)))) None → m ≤ position_or_len fit (zip ls (drop 1 ls))
    none_at m e =
        elim (cases_lt (position_or_len fit (zip ls (drop 1 ls))) m) [
          | inl p ↦ absurd (none-some _ (e ∙ cond-true _ _ _ (lt-ltb _ m p)))
          | inr p ↦ p
        ]

    all : (j : ℕ) → suc j < length ls → 32 < length (part (get_or ls j blank)) + length (part (get_or ls (suc j) blank))
    all j q =
        fits_not (get_or ls j blank, get_or ls (suc j) blank) (ap fit (sym (pair_at ls j q))
        ∙ fails_before_first fit (zip ls (drop 1 ls)) j (blank, blank) (omega (arith, none_at _ e, pairs_long ls)))
