-- Keys and the order of ranks.
use Rattle.std.proofs.Common.{◌≡◌, ℕ, zero, suc, ◌+◌, ◌*◌, ◌/◌, ◌%◌, ◌^◌, ◌<◌, Bool, true, false, cond, not, ◌||◌, eqb, ltb, List, [], ◌∷◌, map, Some, count_by, filter, sym, refl, ap, ◌∙◌, zero-add, arith}
use Rattle.std.specs.Option.{option_map}
use Rattle.std.specs.List.{AllByRecursion, slice_get}
use Rattle.std.proofs.lemmas.Nat.{div-add-mod', div_below, mod_below}
use Rattle.std.proofs.lemmas.List.Sums.{sum_by-cons}
use Rattle.std.proofs.lemmas.Bool.{lt-ltb}
use Rattle.std.proofs.lemmas.Bool.Decides.{nat_tests}
use Rattle.ranking.specs.declared.ranked.Side.{Side}
use Rattle.ranking.specs.declared.ranked.Side.TheVariants.{Buyers, Sellers}
use Rattle.ranking_wide.specs.Keys.{key_of, ranked_of, worth}
use Rattle.ranking.specs.Books.{Ordered}
use Rattle.ranking_wide.specs.Leaves.{Ascending, placed}
use Rattle.ranking.specs.Lists.{has, less}
use Rattle.ranking.specs.Ranks.{before, insert, own}

pub worth_back : (s : Side) (c : ℕ) → c < 2 ^ 32 → worth s (worth s c) ≡ c
worth_back Buyers c p = omega arith
worth_back Sellers c p = refl

upper_below : (k : ℕ) → k < 2 ^ 48 → k / 65536 < 2 ^ 32
upper_below k p = div_below k 65536 (2 ^ 32) (omega arith) p

pub ranked_back : (s : Side) (k : ℕ) → k < 2 ^ 48 → key_of s (ranked_of s k) ≡ k
ranked_back s k p = ap (λ c. c * 65536 + k % 65536) (worth_back s (k / 65536) (upper_below k p)) ∙ div-add-mod' k 65536

pub before_keys : (s : Side) (j k : ℕ) → j < 2 ^ 48 → k < 2 ^ 48 → before s own (ranked_of s j) (ranked_of s k) ≡ ltb j k
before_keys s j k p q =
    split s (j / 65536) (j % 65536) (k / 65536) (k % 65536) j k (div-add-mod' j 65536) (div-add-mod' k 65536)
    (mod_below j 65536 (omega arith)) (mod_below k 65536 (omega arith)) (upper_below j p) (upper_below k q)
  where
    split : (s : Side) (a b c d j k : ℕ) → a * 65536 + b ≡ j → c * 65536 + d ≡ k → b < 65536 → d < 65536 → a < 2 ^ 32 → c < 2 ^ 32
        → before s own (record { member = b; cents = record { 0 = worth s a } }) (record { member = d; cents = record { 0 = worth s c } }) ≡ ltb j k
    split Buyers a b c d j k e f g h m n = grind (arith, nat_tests)
    split Sellers a b c d j k e f g h m n = grind (arith, nat_tests)

-- two keys of one member with the same number
pub same_key : (s : Side) (j k : ℕ) → j < 2 ^ 48 → k < 2 ^ 48 → j % 65536 ≡ k % 65536 → worth s (j / 65536) ≡ worth s (k / 65536) → j ≡ k
same_key s j k p q e f =
    let g : j / 65536 ≡ k / 65536 = sym (worth_back s (j / 65536) (upper_below j p)) ∙ ap (worth s) f ∙ worth_back s (k / 65536) (upper_below k q) in
    sym (div-add-mod' j 65536) ∙ ap (λ n. n * 65536 + j % 65536) g ∙ ap (λ n. k / 65536 * 65536 + n) e ∙ div-add-mod' k 65536

-- the lists of members that keys stand for
module _ (s : Side) where
  pub map_placed : (k : ℕ) (ks : List ℕ) → k < 2 ^ 48 → AllByRecursion (λ j. j < 2 ^ 48) ks
      → map (ranked_of s) (placed k ks) ≡ insert s own (ranked_of s k) (map (ranked_of s) ks)
  unfolding insert
  map_placed k [] p h = refl
  map_placed k (j ∷ ks) p h =
      let r = map_placed k ks p h.1 in
      map_cond (ltb k j) (k ∷ j ∷ ks) (j ∷ placed k ks)
      ∙ ap (λ t. cond t (map (ranked_of s) (k ∷ j ∷ ks)) (map (ranked_of s) (j ∷ placed k ks))) (sym (before_keys s k j p h.0))
      ∙ ap (λ zs. cond (before s own (ranked_of s k) (ranked_of s j)) (map (ranked_of s) (k ∷ j ∷ ks)) (ranked_of s j ∷ zs)) r
    where
      map_cond : (t : Bool) (xs ys : List ℕ) → map (ranked_of s) (cond t xs ys) ≡ cond t (map (ranked_of s) xs) (map (ranked_of s) ys)
      map_cond true xs ys = refl
      map_cond false xs ys = refl

  pub map_count : (k : ℕ) (ks : List ℕ) → k < 2 ^ 48 → AllByRecursion (λ j. j < 2 ^ 48) ks
      → count_by (λ j. ltb j k) ks ≡ count_by (λ x. before s own x (ranked_of s k)) (map (ranked_of s) ks)
  map_count k [] p h = refl
  map_count k (j ∷ ks) p h =
      sum_by-cons (λ i. cond (ltb i k) 1 0) j ks
      ∙ ap (λ n. cond (ltb j k) 1 0 + n) (map_count k ks p h.1)
      ∙ ap (λ t. cond t 1 0 + count_by (λ x. before s own x (ranked_of s k)) (map (ranked_of s) ks)) (sym (before_keys s j k h.0 p))
      ∙ sym (sum_by-cons (λ x. cond (before s own x (ranked_of s k)) 1 0) (ranked_of s j) (map (ranked_of s) ks))

  pub map_kept : (m : ℕ) (ks : List ℕ) → map (ranked_of s) (filter (λ j. not (eqb (j % 65536) m)) ks) ≡ less m (map (ranked_of s) ks)
  map_kept m [] = refl
  map_kept m (j ∷ ks) =
      let r = map_kept m ks in
      elim (not (eqb (j % 65536) m)) as (λ t. map (ranked_of s) (cond t (j ∷ filter (λ i. not (eqb (i % 65536) m)) ks) (filter (λ i. not (eqb (i % 65536) m)) ks)) ≡ cond t (ranked_of s j ∷ less m (map (ranked_of s) ks)) (less m (map (ranked_of s) ks))) [
        | true ↦ ap (λ zs. ranked_of s j ∷ zs) r
        | false ↦ r
      ]

  pub map_nth : (ks : List ℕ) (i : ℕ) → option_map (ranked_of s) (slice_get ks i) ≡ slice_get (map (ranked_of s) ks) i
  map_nth [] i = refl
  map_nth (k ∷ ks) zero = refl
  map_nth (k ∷ ks) (suc i) = map_nth ks i

  pub has_counted : (m : ℕ) (ks : List ℕ) → has m (map (ranked_of s) ks) ≡ ltb 0 (count_by (λ k. eqb (k % 65536) m) ks)
  has_counted m [] = refl
  has_counted m (k ∷ ks) = go (eqb (k % 65536) m) (count_by (λ j. eqb (j % 65536) m) ks) (has_counted m ks)
      ∙ ap (ltb 0) (sym (sum_by-cons (λ j. cond (eqb (j % 65536) m) 1 0) k ks))
    where
      go : (t : Bool) (n : ℕ) → has m (map (ranked_of s) ks) ≡ ltb 0 n → (t || has m (map (ranked_of s) ks)) ≡ ltb 0 (cond t 1 0 + n)
      go true n e = sym (lt-ltb 0 (1 + n) (omega arith))
      go false n e = e ∙ ap (ltb 0) (sym (zero-add n))

  pub ordered_keys : (ks : List ℕ) → AllByRecursion (λ j. j < 2 ^ 48) ks → Ascending ks → Ordered s (map (ranked_of s) ks)
  ordered_keys [] h a = tt
  ordered_keys (k ∷ ks) h a = (after ks h.1 a.0, ordered_keys ks h.1 a.1)
    where
      after : (js : List ℕ) → AllByRecursion (λ j. j < 2 ^ 48) js → AllByRecursion (λ j. k < j) js → AllByRecursion (λ y. before s own (ranked_of s k) y ≡ true) (map (ranked_of s) js)
      after [] g b = tt
      after (j ∷ js) g b = (before_keys s k j h.0 g.0 ∙ lt-ltb k j b.0, after js g.1 b.1)

pub nth_below : (ks : List ℕ) (i k : ℕ) → AllByRecursion (λ j. j < 2 ^ 48) ks → slice_get ks i ≡ Some k → k < 2 ^ 48
nth_below [] i k h e = let z : ◌≡◌ {A = ℕ} 0 1 = cc in absurd (omega arith)
nth_below (j ∷ ks) zero k h e = let z : j ≡ k = cc in omega (arith, h.0)
nth_below (j ∷ ks) (suc i) k h e = nth_below ks i k h.1 e
