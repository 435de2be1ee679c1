-- One kind's book among those of all kinds.
use Rattle.std.proofs.Common.{◌≡◌, ℕ, zero, suc, ◌+◌, ◌*◌, ◌^◌, ◌≤◌, cond, ltb, List, [], ◌∷◌, length, set, Some, Option, sym, refl, ap, ◌∙◌, inl, inr, arith}
use Rattle.std.specs.List.{AllByRecursion, slice_get}
use Rattle.std.proofs.lemmas.Bool.{cases_eq, cond-true, cond-false, lt-ltb, le-ltb}
use Rattle.std.proofs.lemmas.List.{get_or-set_same, length-set}
use Rattle.std.proofs.lemmas.Option.{slice_get-get_or, slice_get_within}
use Rattle.ranking.specs.declared.ranked.Side.{Side}
use Rattle.ranking.specs.declared.ranked.Ranked.{Ranked}
use Rattle.ranking.specs.Books.{Ordered}
use Rattle.ranking.specs.Kinds.{book_list, book_number}
use Rattle.ranking.proofs.Bookings.{ltb_suc}

get-set_other : {X : Type 0} (xs : List X) (i j : ℕ) (y : X) → (j ≡ i → ⊥) → slice_get (set xs i y) j ≡ slice_get xs j
get-set_other [] i j y d = refl
get-set_other (x ∷ xs) zero zero y d = absurd (d refl)
get-set_other (x ∷ xs) zero (suc j) y d = refl
get-set_other (x ∷ xs) (suc i) zero y d = refl
get-set_other (x ∷ xs) (suc i) (suc j) y d = get-set_other xs i j y (λ e. d (ap suc e))

-- what is told of the books after a change of one
module _ {A B : Type 0} (tell : Option B → A) (bs : List B) (k : ℕ) (b c : B) (e : slice_get bs k ≡ Some b) where
  now_there : slice_get (set bs k c) k ≡ Some c
  now_there =
      let p = slice_get_within bs k b e in
      slice_get-get_or (set bs k c) k c (omega (arith, length-set bs k c)) ∙ ap Some (get_or-set_same bs k c c p)

  pub told_this : (F : A → A) → tell (Some c) ≡ F (tell (Some b)) → tell (slice_get (set bs k c) k) ≡ F (tell (slice_get bs k))
  told_this F h = ap tell now_there ∙ h ∙ ap (λ o. F (tell o)) (sym e)

  pub told_rest : (j : ℕ) → (j ≡ k → ⊥) → tell (slice_get (set bs k c) j) ≡ tell (slice_get bs j)
  told_rest j d = ap tell (get-set_other bs k j c d)

  pub told_same : tell (Some c) ≡ tell (Some b) → (j : ℕ) → tell (slice_get (set bs k c) j) ≡ tell (slice_get bs j)
  told_same h j =
      elim (cases_eq j k) [
        | inl w ↦ ap (λ i. tell (slice_get (set bs k c) i)) w ∙ told_this (λ x. x) h ∙ ap (λ i. tell (slice_get bs i)) (sym w)
        | inr d ↦ told_rest j d
      ]

-- what a book tells of a side, or of none
abbrev pub Tells : {B : Type 0} → (Side → B → List Ranked) → (Side → B → ℕ) → (Side → Option B → Type 0) → Side → ℕ → Option B → Type 0
Tells listed depth shape s n o =
    (n ≡ length (book_list listed s o)) × Ordered s (book_list listed s o)
    × (4 ^ book_number (depth s) o ≤ 3 ^ book_number (depth s) o * (n + 1)) × shape s o

-- books that are all new
module _ {B : Type 0} (members : B → ℕ) (listed : Side → B → List Ranked) (m : ℕ) where
  abbrev pub New : B → Type 0
  New b = (members b ≡ m) × ((s : Side) → listed s b ≡ [])

  pub new_lists : (bs : List B) → AllByRecursion New bs → (k : ℕ) (s : Side) → book_list listed s (slice_get bs k) ≡ []
  new_lists [] h k s = refl
  new_lists (b ∷ bs) h zero s = h.0.1 s
  new_lists (b ∷ bs) h (suc k) s = new_lists bs h.1 k s

  pub new_members : (bs : List B) → AllByRecursion New bs → (k : ℕ) → book_number members (slice_get bs k) ≡ cond (ltb k (length bs)) m 0
  new_members [] h k = sym (cond-false (ltb k 0) m 0 (le-ltb k 0 (omega arith)))
  new_members (b ∷ bs) h zero = h.0.0 ∙ sym (cond-true (ltb 0 (suc (length bs))) m 0 (lt-ltb 0 (suc (length bs)) (omega arith)))
  new_members (b ∷ bs) h (suc k) = new_members bs h.1 k ∙ ap (λ t. cond t m 0) (ltb_suc k (length bs))
