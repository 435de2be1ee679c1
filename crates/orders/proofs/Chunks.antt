-- Words of four bytes, one after another.
use Rattle.std.proofs.Common.{◌≡◌, ℕ, zero, suc, ◌+◌, ◌*◌, ◌<◌, List, [], ◌∷◌, ◌++◌, map, get_or, take, drop, sym, ap, ◌∙◌, ap₂, add-zero, zero-add, arith}
use Rattle.std.specs.Simd.{first_chunks}
use Rattle.std.proofs.lemmas.List.{append_assoc, append-nil, get_or-take, get_or-drop, drop-drop}
use Rattle.orders.specs.Words.{word4}

abbrev pub word_of : List ℕ → ℕ
word_of chunk = word4 chunk 0

chunk_word : (i : ℕ) (bytes : List ℕ) → word_of (take 4 (drop i bytes)) ≡ word4 bytes i
chunk_word i bytes = omega (arith, byte 0 (omega arith), byte 1 (omega arith), byte 2 (omega arith), byte 3 (omega arith), ap (λ (n : ℕ). get_or bytes n 0) (add-zero i))
  where
    byte : (j : ℕ) → j < 4 → get_or (take 4 (drop i bytes)) j 0 ≡ get_or bytes (i + j) 0
    byte j h = get_or-take 4 (drop i bytes) j 0 h ∙ get_or-drop i bytes j 0

-- what is made of each word, one by one from the front or all together
module _ (f : ℕ → ℕ) (bytes : List ℕ) (made : ℕ → List ℕ) (next : (n : ℕ) → made (suc n) ≡ made n ++ f (word4 bytes (4 * n)) ∷ []) where
  made_on : (n i : ℕ) → made i ++ map (λ chunk. f (word_of chunk)) (first_chunks 4 n (drop (4 * i) bytes)) ≡ made (i + n)
  made_on zero i = append-nil (made i) ∙ ap made (sym (add-zero i))
  made_on (suc n) i =
      let after : 4 * i + 4 ≡ 4 * suc i = omega arith in
      let count : suc i + n ≡ i + suc n = omega arith in
      ap₂ (λ x rest. made i ++ f x ∷ map (λ chunk. f (word_of chunk)) (first_chunks 4 n rest)) (chunk_word (4 * i) bytes)
      (drop-drop 4 (4 * i) bytes ∙ ap (λ (k : ℕ). drop k bytes) after)
      ∙ sym (append_assoc (made i) (f (word4 bytes (4 * i)) ∷ []) (map (λ chunk. f (word_of chunk)) (first_chunks 4 n (drop (4 * suc i) bytes))))
      ∙ ap (λ xs. xs ++ map (λ chunk. f (word_of chunk)) (first_chunks 4 n (drop (4 * suc i) bytes))) (sym (next i))
      ∙ made_on n (suc i) ∙ ap made count

  pub made_of_words : made 0 ≡ [] → (n : ℕ) → map (λ chunk. f (word_of chunk)) (first_chunks 4 n bytes) ≡ made n
  made_of_words none n =
      ap (λ xs. xs ++ map (λ chunk. f (word_of chunk)) (first_chunks 4 n bytes)) (sym none) ∙ made_on n 0 ∙ ap made (zero-add n)
