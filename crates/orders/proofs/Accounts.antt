-- The search for an account that holds too much, one member further.
use Rattle.std.proofs.Common.{◌≡◌, ℕ, suc, ◌+◌, ◌<◌, ◌≤◌, cond, min, ltb, List, length, get_or, take, drop, Some, None, ap, ◌∙◌, add-one, zero-add, arith}
use Rattle.std.specs.List.{zip, range_with_len}
use Rattle.std.proofs.lemmas.List.{at_drop_more, at_drop_all, get_or-take, get_or_read, length-take}
use Rattle.std.proofs.lemmas.List.FromFn.{length-range_with_len, get_or-range_with_len}
use Rattle.std.proofs.lemmas.Slice.Zip.{length-zip, get_or-zip}
use Rattle.std.proofs.lemmas.Bool.{lt-ltb, le-ltb}
use Rattle.orders.specs.Opening.{first_over}

-- the members beside their accounts
abbrev pub beside : ℕ → List ℕ → List (ℕ × ℕ)
beside M xs = zip (range_with_len 0 M) xs

pub length_beside : (M : ℕ) (xs : List ℕ) → length (beside M xs) ≡ min M (length xs)
length_beside M xs = length-zip (range_with_len 0 M) xs ∙ ap (λ (n : ℕ). min n (length xs)) (length-range_with_len 0 M)

-- a pair of them
pub record Beside (M : ℕ) (xs : List ℕ) (n m a : ℕ) : Type 0 where
  pub member : m ≡ n
  pub exists : n < M
  pub has : n < length xs
  pub account : a ≡ get_or xs n 0

pub beside_at : (M : ℕ) (xs : List ℕ) (n m a : ℕ) → (n < length (beside M xs)) × ((m, a) ≡ get_or (beside M xs) n (m, a)) → Beside M xs n m a
beside_at M xs n m a h =
    let exists : n < M = omega (arith, h.0, length_beside M xs) in
    let has : n < length xs = omega (arith, h.0, length_beside M xs) in
    let pair = h.1 ∙ get_or-zip (range_with_len 0 M) xs n (m, a) (omega (arith, length-range_with_len 0 M)) has in
    record {
      member = ap (λ (p : ℕ × ℕ). p.0) pair ∙ get_or-range_with_len 0 M n m exists ∙ zero-add n;
      exists = exists;
      has = has;
      account = get_or_read xs n a has (ap (λ (p : ℕ × ℕ). p.1) pair) 0;
    }

over_at : (xs : List ℕ) (M m : ℕ) → m < M → m < length xs → first_over m (drop m (take M xs)) ≡ cond (ltb 2000000000 (get_or xs m 0)) (Some m) (first_over (suc m) (drop (m + 1) (take M xs)))
over_at xs M m h l =
    at_drop_more (first_over m) (take M xs) m 0 (simp length-take (omega arith))
    ∙ ap (λ (a : ℕ). cond (ltb 2000000000 a) (Some m) (first_over (suc m) (drop (m + 1) (take M xs)))) (get_or-take M xs m 0 h)

pub over_here : (xs : List ℕ) (M m : ℕ) → m < M → m < length xs → 2000000000 < get_or xs m 0 → first_over m (drop m (take M xs)) ≡ Some m
over_here xs M m h l o = over_at xs M m h l ∙ rw (lt-ltb 2000000000 (get_or xs m 0) o)

pub over_past : (xs : List ℕ) (M m : ℕ) → m ≡ min M (length xs) → first_over m (drop m (take M xs)) ≡ None
over_past xs M m e = at_drop_all (first_over m) (take M xs) m (simp length-take (omega arith))

pub over_more : (xs : List ℕ) (M m : ℕ) → m < M → m < length xs → get_or xs m 0 ≤ 2000000000 → first_over m (drop m (take M xs)) ≡ first_over (m + 1) (drop (m + 1) (take M xs))
over_more xs M m h l o = over_at xs M m h l ∙ rw (le-ltb 2000000000 (get_or xs m 0) o, add-one m)
