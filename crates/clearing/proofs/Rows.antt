-- From ranked lists to rows of entries: what the ranked list of a row holds, and how it changes with one member's entry.
use Rattle.std.proofs.Common.{◌≡◌, ℕ, zero, suc, ◌+◌, ◌<◌, cond, List, [], ◌∷◌, length, get_or, set, Some, None, Option, sym, refl, ap, ◌∙◌, zero-add, arith}
use Rattle.std.specs.List.{AllByRecursion}
use Rattle.std.proofs.ByRecursion.{All-weaker}
use Rattle.std.proofs.lemmas.List.{length-set, get_or-set_same}
use Rattle.orders.specs.declared.money.Cents.{Cents}
use Rattle.orders.specs.declared.entry.Entry.{Entry}
use Rattle.orders.specs.declared.entry.Entry.TheVariants.{Nothing, Bid, Ask}
use Rattle.ranking.specs.declared.ranked.Side.{Side}
use Rattle.ranking.specs.declared.ranked.Side.TheVariants.{Buyers, Sellers}
use Rattle.ranking.specs.declared.ranked.Ranked.{Ranked}
use Rattle.ranking.specs.Ranks.{insert, on_side, entered, ranked_from, ranked}
use Rattle.clearing.specs.Rule.{cents_of}
use Rattle.clearing.specs.Kind.{Apart, number, standing, one_before, before_from, rank}
use Rattle.clearing.proofs.Sides.{other}
use Rattle.clearing.proofs.Critical.{Falling}
use Rattle.clearing.proofs.Placing.{place, count_before, Ordered, Differ, insert_put, insert_ordered, insert_comm, all_insert, place_counts, count_insert, put_falls, before_itself}

-- no two entries of a row whose first is member m's have one tie number
abbrev ApartFrom : (ℕ → ℕ) → ℕ → List Entry → Type 0
ApartFrom tie m es = (i j : ℕ) → i < length es → j < length es → tie (m + i) ≡ tie (m + j) → i ≡ j

apart_tail : (tie : ℕ → ℕ) (m : ℕ) (e : Entry) (es : List Entry) → ApartFrom tie m (e ∷ es) → ApartFrom tie (suc m) es
apart_tail tie m e es h i j l k t =
    let x : m + suc i ≡ suc m + i = omega arith in
    let y : m + suc j ≡ suc m + j = omega arith in
    let z = h (suc i) (suc j) (omega arith) (omega arith) (ap tie x ∙ t ∙ sym (ap tie y)) in
    omega arith

pub nothing_stands : (s : Side) → on_side s Nothing ≡ None
nothing_stands Buyers = refl
nothing_stands Sellers = refl

module _ (s : Side) (tie : ℕ → ℕ) where
  entered_falls : (m : ℕ) (o : Option Cents) (xs : List Ranked) → Falling s (cents_of xs) → Falling s (cents_of (entered s tie m o xs))
  entered_falls m None xs h = h
  entered_falls m (Some c) xs h = put_falls s _ _ _ _ h (insert_put s tie (standing m c) xs h)

  falls_from : (m : ℕ) (es : List Entry) → Falling s (cents_of (ranked_from s tie m es))
  unfolding ranked_from
  falls_from m [] = λ j k h l. absurd (omega arith)
  falls_from m (e ∷ es) = entered_falls m (on_side s e) (ranked_from s tie (suc m) es) (falls_from (suc m) es)

  -- a member of the ranked list stands in the row
  abbrev OfRow : ℕ → List Entry → Ranked → Type 0
  OfRow m es y = (k : ℕ) × (k < length es) × (y.member ≡ m + k) × (on_side s (get_or es k Nothing) ≡ Some y.cents)

  of_tail : (m : ℕ) (e : Entry) (es : List Entry) (y : Ranked) → OfRow (suc m) es y → OfRow m (e ∷ es) y
  of_tail m e es y h = (suc h.0, omega (arith, h.1), omega (arith, h.2), h.3)

  entered_of : (m : ℕ) (e : Entry) (es : List Entry) (o : Option Cents) (xs : List Ranked) → on_side s e ≡ o →
      AllByRecursion (OfRow m (e ∷ es)) xs → AllByRecursion (OfRow m (e ∷ es)) (entered s tie m o xs)
  entered_of m e es None xs f h = h
  entered_of m e es (Some c) xs f h =
      all_insert s tie (OfRow m (e ∷ es)) (standing m c) xs (0, omega arith, omega arith, f) h

  of_row_from : (m : ℕ) (es : List Entry) → AllByRecursion (OfRow m es) (ranked_from s tie m es)
  unfolding ranked_from
  of_row_from m [] = tt
  of_row_from m (e ∷ es) =
      entered_of m e es (on_side s e) (ranked_from s tie (suc m) es) refl
      (All-weaker (OfRow (suc m) es) (OfRow m (e ∷ es)) (of_tail m e es) _ (of_row_from (suc m) es))

  entered_ordered : (m : ℕ) (e : Entry) (es : List Entry) (o : Option Cents) (xs : List Ranked) → ApartFrom tie m (e ∷ es) →
      AllByRecursion (OfRow (suc m) es) xs → Ordered s tie xs → Ordered s tie (entered s tie m o xs)
  entered_ordered m e es None xs a all h = h
  entered_ordered m e es (Some c) xs a all h =
      insert_ordered s tie (standing m c) xs (All-weaker _ _ differ xs all) h
    where
      differ : (y : Ranked) → OfRow (suc m) es y → Differ tie (standing m c) y
      differ y b t =
          let x : m ≡ m + 0 = omega arith in
          let z : y.member ≡ m + suc b.0 = omega (arith, b.2) in
          let i = a 0 (suc b.0) (omega arith) (omega (arith, b.1)) (ap tie (sym x) ∙ t ∙ ap tie z) in
          omega arith

  ordered_from : (m : ℕ) (es : List Entry) → ApartFrom tie m es → Ordered s tie (ranked_from s tie m es)
  unfolding ranked_from
  ordered_from m [] a = tt
  ordered_from m (e ∷ es) a =
      entered_ordered m e es (on_side s e) (ranked_from s tie (suc m) es) a (of_row_from (suc m) es)
      (ordered_from (suc m) es (apart_tail tie m e es a))

  entered_counts : (x : Ranked) (m : ℕ) (o : Option Cents) (xs : List Ranked) →
      count_before s tie x (entered s tie m o xs) ≡ one_before s tie x m o + count_before s tie x xs
  entered_counts x m None xs = sym (zero-add _)
  entered_counts x m (Some c) xs = count_insert s tie x (standing m c) xs

  -- how many are before a member, in the row and in its ranked list
  counts_from : (x : Ranked) (m : ℕ) (es : List Entry) → before_from s tie x m es ≡ count_before s tie x (ranked_from s tie m es)
  unfolding ranked_from before_from
  counts_from x m [] = refl
  counts_from x m (e ∷ es) =
      ap (λ n. one_before s tie x m (on_side s e) + n) (counts_from x (suc m) es)
      ∙ sym (entered_counts x m (on_side s e) (ranked_from s tie (suc m) es))

  entered_comm : (m n : ℕ) (o o' : Option Cents) (xs : List Ranked) → (tie m ≡ tie n → ⊥) →
      entered s tie m o (entered s tie n o' xs) ≡ entered s tie n o' (entered s tie m o xs)
  entered_comm m n None o' xs d = refl
  entered_comm m n (Some c) None xs d = refl
  entered_comm m n (Some c) (Some c') xs d = insert_comm s tie (standing m c) (standing n c') xs d

  -- one member's entry put in last
  put_last : (m : ℕ) (es : List Entry) (k : ℕ) (e : Entry) → ApartFrom tie m es → k < length es →
      ranked_from s tie m (set es k e) ≡ entered s tie (m + k) (on_side s e) (ranked_from s tie m (set es k Nothing))
  unfolding ranked_from
  put_last m [] k e a l = absurd (omega arith)
  put_last m (x ∷ es) zero e a l =
      let i : m ≡ m + 0 = omega arith in
      ap (λ n. entered s tie n (on_side s e) (ranked_from s tie (suc m) es)) i
      ∙ ap (λ o. entered s tie (m + 0) (on_side s e) (entered s tie m o (ranked_from s tie (suc m) es))) (sym (nothing_stands s))
  put_last m (x ∷ es) (suc k) e a l =
      let i : suc m + k ≡ m + suc k = omega arith in
      let d : tie m ≡ tie (suc m + k) → ⊥ =
      λ t. let z : m ≡ m + 0 = omega arith in
      let j = a 0 (suc k) (omega arith) (omega arith) (ap tie (sym z) ∙ t ∙ ap tie i) in omega arith in
      ap (entered s tie m (on_side s x)) (put_last (suc m) es k e (apart_tail tie m x es a) (omega arith))
      ∙ entered_comm m (suc m + k) (on_side s x) (on_side s e) (ranked_from s tie (suc m) (set es k Nothing)) d
      ∙ ap (λ n. entered s tie n (on_side s e) (entered s tie m (on_side s x) (ranked_from s tie (suc m) (set es k Nothing)))) i

abbrev pub entry : Side → Cents → Entry
entry Buyers c = Bid c
entry Sellers c = Ask c

pub stands : (s : Side) (c : Cents) → on_side s (entry s c) ≡ Some c
stands Buyers c = refl
stands Sellers c = refl

not_other : (s : Side) (c : Cents) → on_side (other s) (entry s c) ≡ None
not_other Buyers c = refl
not_other Sellers c = refl

pub apart_from_0 : (tie : ℕ → ℕ) (row : List Entry) → Apart tie row → ApartFrom tie 0 row
apart_from_0 tie row a i j l k t = a i j l k (ap tie (sym (zero-add i)) ∙ t ∙ ap tie (zero-add j))

pub ranked_falls : (s : Side) (tie : ℕ → ℕ) (row : List Entry) → Falling s (cents_of (ranked s tie row))
unfolding ranked
ranked_falls s tie row = falls_from s tie 0 row

pub ranked_ordered : (s : Side) (tie : ℕ → ℕ) (row : List Entry) → Apart tie row → Ordered s tie (ranked s tie row)
unfolding ranked
ranked_ordered s tie row a = ordered_from s tie 0 row (apart_from_0 tie row a)

-- a member of the ranked list stands in the row with its number
abbrev pub InRow : Side → List Entry → Ranked → Type 0
InRow s row y = (y.member < length row) × (number s row y.member ≡ Some y.cents)

pub ranked_in_row : (s : Side) (tie : ℕ → ℕ) (row : List Entry) → AllByRecursion (InRow s row) (ranked s tie row)
unfolding ranked
ranked_in_row s tie row = All-weaker _ _ in_row _ (of_row_from s tie 0 row)
  where
    in_row : (y : Ranked) → OfRow s tie 0 row y → InRow s row y
    in_row y h =
        let e : h.0 ≡ y.member = omega (arith, h.2) in
        (omega (arith, h.1), ap (number s row) (sym e) ∙ h.3)

pub rank_counts : (s : Side) (tie : ℕ → ℕ) (row : List Entry) (x : Ranked) →
    rank s tie row x ≡ count_before s tie x (ranked s tie row)
unfolding ranked
rank_counts s tie row x = counts_from s tie x 0 row

pub ranked_set : (s : Side) (tie : ℕ → ℕ) (row : List Entry) (i : ℕ) (e : Entry) → Apart tie row → i < length row →
    ranked s tie (set row i e) ≡ entered s tie i (on_side s e) (ranked s tie (set row i Nothing))
unfolding ranked
ranked_set s tie row i e a l =
    put_last s tie 0 row i e (apart_from_0 tie row a) l
    ∙ ap (λ n. entered s tie n (on_side s e) (ranked_from s tie 0 (set row i Nothing))) (zero-add i)

module _ (s : Side) (tie : ℕ → ℕ) (row : List Entry) (a : Apart tie row) (i : ℕ) (l : i < length row) where
  -- the others of both sides
  abbrev pub fellows : List Ranked
  fellows = ranked s tie (set row i Nothing)

  abbrev pub partners : List Ranked
  partners = ranked (other s) tie (set row i Nothing)

  pub own_list : (w : Cents) → ranked s tie (set row i (entry s w)) ≡ insert s tie (standing i w) fellows
  own_list w =
      ranked_set s tie row i (entry s w) a l ∙ ap (λ o. entered s tie i o fellows) (stands s w)

  pub other_list : (w : Cents) → ranked (other s) tie (set row i (entry s w)) ≡ partners
  other_list w =
      ranked_set (other s) tie row i (entry s w) a l ∙ ap (λ o. entered (other s) tie i o partners) (not_other s w)

  apart_set : (e : Entry) → Apart tie (set row i e)
  apart_set e j k h m t = a j k (omega (arith, length-set row i e)) (omega (arith, length-set row i e)) t

  fellows_differ : (w : Cents) → AllByRecursion (Differ tie (standing i w)) fellows
  fellows_differ w = All-weaker _ _ differ fellows (ranked_in_row s tie (set row i Nothing))
    where
      differ : (y : Ranked) → InRow s (set row i Nothing) y → Differ tie (standing i w) y
      differ y h t =
          let e : i ≡ y.member = a i y.member l (omega (arith, h.0, length-set row i Nothing)) t in
          let z : None ≡ Some y.cents =
          sym (nothing_stands s) ∙ ap (on_side s) (sym (get_or-set_same row i Nothing Nothing l))
          ∙ ap (number s (set row i Nothing)) e ∙ h.1 in
          let n : ◌≡◌ {A = ℕ} 0 1 = cc in
          omega arith

  pub rank_is_place : (w : Cents) → rank s tie (set row i (entry s w)) (standing i w) ≡ place s tie (standing i w) fellows
  rank_is_place w =
      let x : Ranked = standing i w in
      rank_counts s tie (set row i (entry s w)) x
      ∙ ap (count_before s tie x) (own_list w)
      ∙ count_insert s tie x x fellows
      ∙ ap (λ b. cond b 1 0 + count_before s tie x fellows) (before_itself s tie x)
      ∙ zero-add _
      ∙ sym (place_counts s tie x fellows (fellows_differ w) (ranked_ordered s tie (set row i Nothing) (apart_set Nothing)))
