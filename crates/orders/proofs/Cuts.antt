-- As many as are wanted, or as there are.
use Rattle.std.proofs.Common.{◌≡◌, ℕ, ◌<◌, ◌≤◌, min, List, length, take, drop, sym, ap, ◌∙◌, ⊎_elim, arith}
use Rattle.std.proofs.lemmas.List.{take_all, drop_all}
use Rattle.std.proofs.lemmas.Bool.{cases_lt}

pub take_min : {X : Type 0} (xs : List X) (n s : ℕ) → s ≡ min (length xs) n → (take s xs ≡ take n xs) × (drop s xs ≡ drop n xs)
take_min {X} xs n s e = ⊎_elim short long (cases_lt (length xs) n)
  where
    short : length xs < n → (take s xs ≡ take n xs) × (drop s xs ≡ drop n xs)
    short h = (
      take_all s xs (omega arith) ∙ sym (take_all n xs (omega arith)),
      drop_all s xs (omega arith) ∙ sym (drop_all n xs (omega arith)),
    )

    long : n ≤ length xs → (take s xs ≡ take n xs) × (drop s xs ≡ drop n xs)
    long h = let f : s ≡ n = omega arith in (ap (λ (k : ℕ). take k xs) f, ap (λ (k : ℕ). drop k xs) f)
