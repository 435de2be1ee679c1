-- A loop over the numbers below n, each beside the next m elements of a list.
use Rattle.std.proofs.Common.{◌≡◌, ℕ, ◌+◌, ◌*◌, ◌<◌, ◌≤◌, ◌⊎◌, List, ◌++◌, length, take, drop, Some, None, Option, sym, ap, ◌∙◌, subst, inl, inr, arith, length-append, length-drop}
use Rattle.std.specs.declared.iter.Zip.{Zip}
use Rattle.std.specs.declared.ops.Range.{Range}
use Rattle.std.specs.declared.slice.ChunksExact.{ChunksExact}
use Rattle.std.specs.Iterator.Adapters.{zip_first, zip_second}
use Rattle.std.specs.Slice.Iter.{chunks_exact_rest, chunks_exact_size, chunks_exact_steps}
use Rattle.std.proofs.Math.Nat.{add-mul}
use Rattle.std.proofs.iter.Yields.{nat_range_steps}
use Rattle.std.proofs.lemmas.Iterator.{zips}
use Rattle.std.proofs.lemmas.List.{drop-drop, take_at, drop_at}
use denote.Ref.{Bor}

abbrev pub Loop : Type 0 → Type 0
Loop A = Zip (Range ℕ) (ChunksExact A)

module _ {A : Type 0} where
  -- the number that comes next
  abbrev pub at : Loop A → ℕ
  at s = (zip_first s).start

  -- where such a loop is
  pub record Turn (n m : ℕ) (xs : List A) (s : Loop A) : Type 0 where
    pub below : at s ≤ n
    pub last : (zip_first s).end ≡ n
    pub size : chunks_exact_size (zip_second s) ≡ m
    pub rest : chunks_exact_rest (zip_second s) ≡ drop (at s * m) xs
    pub room : at s * m ≤ length xs

  -- and what comes next, if anything does
  pub record Taken (n m : ℕ) (xs : List A) (s t : Loop A) (p : ℕ × Bor (List A)) : Type 0 where
    pub number : p.0 ≡ at s
    pub below : at s < n
    pub part : p.1.now ≡ take m (drop (at s * m) xs)
    pub long : at s * m + m ≤ length xs
    pub more : at t ≡ at s + 1
    pub turn : Turn n m xs t

  pub taken : (n m : ℕ) (xs : List A) (s t : Loop A) (r : Option (ℕ × Bor (List A))) (p : ℕ × Bor (List A)) → Turn n m xs s →
      r ≡ Some p → zips nat_range_steps chunks_exact_steps s r t → Taken n m xs s t p
  taken n m xs s t r p h e z =
      let w = subst (λ o. zips nat_range_steps chunks_exact_steps s o t) e z in
      let range = w.0 in
      let parts = w.1 in
      let cut : drop (at s * m) xs ≡ p.1.now ++ chunks_exact_rest (zip_second t) = sym h.rest ∙ parts.1.0 in
      let size : length p.1.now ≡ m = parts.1.1 ∙ h.size in
      let long : at s * m + m ≤ length xs =
      omega (arith, h.room, length-drop (at s * m) xs, ap length cut, length-append p.1.now (chunks_exact_rest (zip_second t)), size) in
      let more : at t * m ≡ at s * m + m =
      ap (λ k. k * m) range.1.2 ∙ add-mul (at s) 1 m ∙ omega arith in
      record {
        number = range.1.1;
        below = omega (arith, range.1.0, h.last);
        part = sym (take_at p.1.now (chunks_exact_rest (zip_second t)) m size) ∙ ap (take m) (sym cut);
        long = long;
        more = range.1.2;
        turn = record {
          below = omega (arith, range.1.0, range.1.2, h.last);
          last = range.0 ∙ h.last;
          size = parts.0 ∙ h.size;
          rest = sym (drop_at p.1.now (chunks_exact_rest (zip_second t)) m size)
              ∙ ap (drop m) (sym cut) ∙ drop-drop m (at s * m) xs ∙ ap (λ k. drop k xs) (sym more);
          room = omega (arith, more, long);
        };
      }

  -- it ends after n numbers, or where fewer than m elements are left
  pub ended : (n m : ℕ) (xs : List A) (s t : Loop A) (r : Option (ℕ × Bor (List A))) → Turn n m xs s → r ≡ None →
      zips nat_range_steps chunks_exact_steps s r t → (at s ≡ n) ⊎ (length xs < at s * m + m)
  ended n m xs s t r h e z = by (subst (λ o. zips nat_range_steps chunks_exact_steps s o t) e z)
    where
      by : ((u : Range ℕ) × nat_range_steps (zip_first s) None u) ⊎ ((u : ChunksExact A) × chunks_exact_steps (zip_second s) None u) →
          (at s ≡ n) ⊎ (length xs < at s * m + m)
      by (inl a) = inl (omega (arith, a.1.1.0, h.below, h.last))
      by (inr b) = inr (omega (arith, b.1.1.0, h.size, ap length h.rest, length-drop (at s * m) xs, h.room))
