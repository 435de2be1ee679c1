-- Elements of a list that are set, put in beside and taken out.
use Rattle.std.proofs.Common.{◌≡◌, ℕ, zero, suc, ◌+◌, ◌<◌, List, [], ◌∷◌, ◌++◌, length, get_or, take, drop, set, Some, refl, ap, ◌∙◌, arith}
use Rattle.std.specs.List.{insert, remove, slice_get}

module _ {X : Type 0} where
  -- two neighbours, with those before them and those after them
  pub around_two : (xs : List X) (i : ℕ) (d : X) → suc i < length xs
      → xs ≡ take i xs ++ get_or xs i d ∷ get_or xs (suc i) d ∷ drop (suc (suc i)) xs
  around_two [] i d p = absurd (omega arith)
  around_two (x ∷ []) zero d p = absurd (omega arith)
  around_two (x ∷ y ∷ xs) zero d p = refl
  around_two (x ∷ xs) (suc i) d p = ap (λ zs. x ∷ zs) (around_two xs i d (omega arith))

  pub set_removed : (xs : List X) (i : ℕ) (y : X) → suc i < length xs
      → set (remove xs (suc i)) i y ≡ take i xs ++ y ∷ drop (suc (suc i)) xs
  set_removed [] i y p = absurd (omega arith)
  set_removed (x ∷ xs) zero y p = refl
  set_removed (x ∷ xs) (suc i) y p = ap (λ zs. x ∷ zs) (set_removed xs i y (omega arith))

  pub inserted_set : (xs : List X) (i : ℕ) (y z : X) → i < length xs
      → insert (set xs i y) (suc i) z ≡ take i xs ++ y ∷ z ∷ drop (suc i) xs
  inserted_set [] i y z p = absurd (omega arith)
  inserted_set (x ∷ xs) zero y z p = refl
  inserted_set (x ∷ xs) (suc i) y z p = ap (λ zs. x ∷ zs) (inserted_set xs i y z (omega arith))

  pub nth_front : (xs ys : List X) (i : ℕ) (d : X) → i < length xs → slice_get (xs ++ ys) i ≡ Some (get_or xs i d)
  nth_front [] ys i d p = absurd (omega arith)
  nth_front (x ∷ xs) ys zero d p = refl
  nth_front (x ∷ xs) ys (suc i) d p = nth_front xs ys i d (omega arith)

  pub nth_back : (xs ys : List X) (i : ℕ) → slice_get (xs ++ ys) (length xs + i) ≡ slice_get ys i
  nth_back [] ys i = ap (slice_get ys) (omega arith)
  nth_back (x ∷ xs) ys i =
      let e : suc (length xs) + i ≡ suc (length xs + i) = omega arith in
      ap (slice_get (x ∷ (xs ++ ys))) e ∙ nth_back xs ys i
