-- A file of entries is read again as it was written.
use Rattle.std.proofs.Common.{◌≡◌, ℕ, zero, suc, ◌+◌, ◌*◌, ◌/◌, ◌%◌, ◌<◌, ◌≤◌, List, [], ◌∷◌, ◌++◌, length, get_or, take, None, sym, refl, ap, ◌∙◌, ap₂, add-one, arith}
use Rattle.std.specs.List.{flat_map, AllByRecursion}
use Rattle.std.proofs.lemmas.List.{length-append, take_more, take_all}
use Rattle.std.proofs.lemmas.Bool.{cond-true, le-leb}
use Rattle.std.proofs.lemmas.Bool.Decides.{nat_tests}
use Rattle.orders.specs.Inputs.{members_in}
use Rattle.orders.specs.Words.{word4}
use Rattle.sheet.specs.Words.{bytes2, bytes4}
use Rattle.sheet.specs.EntryFiles.{file_of, file_length, refused_file, codes_in}
use Rattle.sheet.specs.Statements.{FileReadAgain}
use Rattle.sheet.proofs.Sections.{word4_bytes, word4_past}
use Rattle.sheet.proofs.Written.{length_bytes4}

length_codes : (codes : List ℕ) → length (flat_map bytes4 codes) ≡ 4 * length codes
length_codes [] = refl
length_codes (n ∷ codes) = omega (arith, length-append (bytes4 n) (flat_map bytes4 codes), length_bytes4 n, length_codes codes)

-- the code at a place
code_at : (codes : List ℕ) (i : ℕ) → AllByRecursion (λ n. n < 4294967296) codes → i < length codes → word4 (flat_map bytes4 codes) (4 * i) ≡ get_or codes i 0
code_at [] i a h = absurd (omega arith)
code_at (n ∷ codes) zero a h = word4_bytes n (flat_map bytes4 codes) a.0
code_at (n ∷ codes) (suc i) a h =
    word4_past (bytes4 n) (flat_map bytes4 codes) (4 * i) (4 * suc i) (omega (arith, length_bytes4 n)) ∙ code_at codes i a.1 (omega arith)

codes_first : (codes : List ℕ) (n : ℕ) → AllByRecursion (λ n. n < 4294967296) codes → n ≤ length codes → codes_in (flat_map bytes4 codes) n ≡ take n codes
codes_first codes zero a h = refl
codes_first codes (suc n) a h =
    ap₂ (λ xs x. xs ++ x ∷ []) (codes_first codes n a (omega arith)) (code_at codes n a (omega arith))
    ∙ sym (take_more codes n 0 (omega arith)) ∙ ap (λ (i : ℕ). take i codes) (add-one n)

taken_file : (K M size : ℕ) → 1 ≤ K → K ≤ 64 → 1 ≤ M → M ≤ 2000 → size ≡ file_length K M → refused_file K M size ≡ None
taken_file K M size k l m n e = grind (arith, nat_tests)

pub file_back : FileReadAgain
unfolding bytes2
file_back K M codes p e a =
    let size = length_codes codes in
    let count : length (flat_map bytes4 codes) / 4 ≡ length codes = omega arith in
    let word : M % 256 + M / 256 % 256 * 256 ≡ M = omega (arith, p.members_most) in
    let members : members_in (file_of K M codes) ≡ M = cond-true _ _ _ (le-leb 3 (length (file_of K M codes)) (omega arith)) ∙ word in
    record {
      taken =
          ap (λ (m : ℕ). refused_file K m (length (file_of K M codes))) members
          ∙ taken_file K M (length (file_of K M codes)) p.kinds_least p.kinds_most p.members_least p.members_most (omega arith);
      kinds = refl;
      members = members;
      entries =
          ap (codes_in (flat_map bytes4 codes)) count ∙ codes_first codes (length codes) a (omega arith) ∙ take_all (length codes) codes (omega arith);
    }
