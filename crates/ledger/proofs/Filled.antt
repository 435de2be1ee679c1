-- A list into which the members of a ranked list are written, one after another.
use Rattle.std.proofs.Common.{◌≡◌, ℕ, ◌+◌, ◌<◌, List, length, get_or, set, Some, None, sym, ap, ◌∙◌, zero-add, arith}
use lib.Seq.{paste}
use Rattle.std.proofs.lemmas.List.Edits.{paste_more}
use Rattle.std.proofs.lemmas.Option.{slice_get-get_or}
use Rattle.std.specs.List.{slice_get}
use Rattle.ranking.specs.declared.ranked.Ranked.{Ranked}

pub filled_more : (d xs : List Ranked) (i : ℕ) (x : Ranked) → i < length d → i < length xs → Some x ≡ slice_get xs i → set (paste d 0 xs i) i x ≡ paste d 0 xs (i + 1)
filled_more d xs i x l h e =
    let both : Some x ≡ Some (get_or xs i x) = e ∙ slice_get-get_or xs i x h in
    let same : x ≡ get_or xs i x = cc in
    ap (set (paste d 0 xs i) i) same ∙ ap (λ (k : ℕ). set (paste d 0 xs i) k (get_or xs i x)) (sym (zero-add i)) ∙ paste_more d 0 xs i x (omega arith) h

pub is_there : (xs : List Ranked) (i : ℕ) → i < length xs → None ≡ slice_get xs i → ⊥
is_there xs i h e =
    let d : Ranked = record { member = 0; cents = record { 0 = 0 } } in
    let both : None ≡ Some (get_or xs i d) = e ∙ slice_get-get_or xs i d h in
    let z : ◌≡◌ {A = ℕ} 0 1 = cc in
    omega arith
