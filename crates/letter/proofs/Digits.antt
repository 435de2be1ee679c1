-- Bytes that are read again are those that were written, and the other way round.
use Rattle.std.proofs.Common.{◌≡◌, ℕ, ◌+◌, ◌*◌, ◌/◌, ◌%◌, ◌<◌, ◌≤◌, List, [], ◌++◌, length, get_or, take, drop, sym, refl, ap, ◌∙◌, inl, inr, arith}
use Rattle.std.proofs.lemmas.Nat.{le_bytes_2, le_bytes_4}
use Rattle.std.proofs.lemmas.List.{length-take, length-drop, drop-drop, take-append-drop, get_or-take, get_or-drop, get_or_past}
use Rattle.std.proofs.lemmas.Bool.{cases_lt}
use Rattle.sheet.proofs.Sections.{word4_bytes}
use Rattle.sheet.specs.Words.{bytes2, bytes4}
use Rattle.letter.specs.Words.{number_at}

-- each number of a list fits a byte
abbrev pub Bytes : List ℕ → Type 0
Bytes bs = (i : ℕ) → get_or bs i 0 < 256

pub part_bytes : (bs : List ℕ) (n k : ℕ) → Bytes bs → Bytes (take n (drop k bs))
part_bytes bs n k b i =
    elim (cases_lt i n) [
      | inl l ↦ omega (arith, get_or-take n (drop k bs) i 0 l, get_or-drop k bs i 0, b (k + i))
      | inr l ↦ omega (arith, get_or_past (take n (drop k bs)) i 0 (omega (arith, length-take n (drop k bs))))
    ]

pub number_of_bytes : (n : ℕ) → n < 4294967296 →
    n % 256 + n / 256 % 256 * 256 + n / 65536 % 256 * 65536 + n / 16777216 % 256 * 16777216 ≡ n
unfolding bytes4
number_of_bytes n h = word4_bytes n [] h

-- a number read at a place, with what comes after it
pub front4 : (bs : List ℕ) (i : ℕ) → Bytes bs → i + 4 ≤ length bs → bytes4 (number_at bs i) ++ drop (i + 4) bs ≡ drop i bs
unfolding bytes4 number_at
front4 bs i h l =
    let part = take 4 (drop i bs) in
    let at : (k j : ℕ) → k < 4 → i + k ≡ j → get_or part k 0 ≡ get_or bs j 0 =
    λ k j m e. get_or-take 4 (drop i bs) k 0 m ∙ get_or-drop i bs k 0 ∙ ap (λ n. get_or bs n 0) e in
    let four = le_bytes_4 part (number_at bs i) (omega (arith, length-take 4 (drop i bs), length-drop i bs)) (part_bytes bs 4 i h)
    (omega (arith, at 0 i (omega arith) (omega arith), at 1 (i + 1) (omega arith) refl, at 2 (i + 2) (omega arith) refl, at 3 (i + 3) (omega arith) refl)) in
    ap (λ b. b ++ drop (i + 4) bs) four ∙ ap (λ r. part ++ r) (sym (drop-drop 4 i bs)) ∙ take-append-drop 4 (drop i bs)

pub front2 : (bs : List ℕ) → Bytes bs → 2 ≤ length bs → bytes2 (get_or bs 0 0 + get_or bs 1 0 * 256) ++ drop 2 bs ≡ bs
unfolding bytes2
front2 bs h l =
    let part = take 2 bs in
    let two = le_bytes_2 part (get_or bs 0 0 + get_or bs 1 0 * 256) (omega (arith, length-take 2 bs)) (part_bytes bs 2 0 h)
    (omega (arith, get_or-take 2 bs 0 0 (omega arith), get_or-take 2 bs 1 0 (omega arith))) in
    ap (λ b. b ++ drop 2 bs) two ∙ take-append-drop 2 bs
