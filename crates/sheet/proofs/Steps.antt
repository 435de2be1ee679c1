-- Going through the bytes that should be there.
use Rattle.std.specs.List.{starts_with}
use Rattle.std.proofs.lemmas.Bool.Decides.{nat_tests}
use Rattle.std.proofs.Common.{◌≡◌, ℕ, suc, ◌+◌, ◌/◌, ◌%◌, nat_eq, add-zero, arith, ◌&&◌, ap₂, ◌<◌, ◌≤◌, Bool, true, false, cond, eqb, List, [], ◌∷◌, ◌++◌, length, get_or, drop, Ok, Err, Result, sym, refl, ap, ◌∙◌, inl, inr, drop-cons}
use Rattle.std.proofs.lemmas.List.{append_assoc, at_drop_more, drop_all}
use Rattle.std.proofs.lemmas.Bool.{cases_lt, cond-true, cond-false}
use Rattle.orders.specs.declared.refusal.Refusal.{Refusal}
use Rattle.orders.specs.declared.refusal.Refusal.TheVariants.{Ends}
use Rattle.ranking.specs.declared.ranked.Ranked.{Ranked}
use Rattle.sheet.specs.Words.{bytes2, bytes4}
use Rattle.sheet.specs.Sheets.{row_bytes}
use Rattle.sheet.specs.Verdicts.{and_then, compared, step}

-- WHAT SHOULD BE THERE IS, or is but for its end, or is not

same_test : (x b : ℕ) → eqb b x ≡ eqb x b
same_test x b = grind (arith, nat_tests)

under : (t u v : Bool) (r whole early why : Result ℕ Refusal) → r ≡ cond u whole (cond v early why) →
    cond t r why ≡ cond (t && u) whole (cond (t && v) early why)
under true u v r whole early why h = h
under false u v r whole early why h = refl

one_more : (at n : ℕ) → suc at + n ≡ at + suc n
one_more at n = omega arith

compared_is : (why : Refusal) (bytes there : List ℕ) (at : ℕ) →
    compared why bytes there at
    ≡ cond (starts_with nat_eq there bytes) (Ok (at + length bytes)) (cond (starts_with nat_eq bytes there) (Err (Ends (at + length there))) (Err why))
unfolding compared
compared_is why [] there at = ap Ok (sym (add-zero at))
compared_is why (b ∷ bytes) [] at = ap (λ n. Err (Ends n)) (sym (add-zero at))
compared_is why (b ∷ bytes) (x ∷ there) at =
    let u = starts_with nat_eq there bytes in
    let v = starts_with nat_eq bytes there in
    under (eqb x b) u v _ (Ok (at + suc (length bytes))) (Err (Ends (at + suc (length there)))) (Err why)
    (compared_is why bytes there (suc at)
    ∙ ap₂ (λ m n. cond u (Ok m) (cond v (Err (Ends n)) (Err why))) (one_more at (length bytes)) (one_more at (length there)))
    ∙ ap (λ t. cond (t && u) (Ok (at + suc (length bytes))) (cond (eqb x b && v) (Err (Ends (at + suc (length there)))) (Err why))) (sym (same_test x b))

pub begins : (why : Refusal) (bytes there : List ℕ) (at : ℕ) → starts_with nat_eq there bytes ≡ true →
    compared why bytes there at ≡ Ok (at + length bytes)
begins why bytes there at h = compared_is why bytes there at ∙ cond-true _ _ _ h

pub ends_early : (why : Refusal) (bytes there : List ℕ) (at : ℕ) → starts_with nat_eq there bytes ≡ false → starts_with nat_eq bytes there ≡ true →
    compared why bytes there at ≡ Err (Ends (at + length there))
ends_early why bytes there at h k = compared_is why bytes there at ∙ cond-false _ _ _ h ∙ cond-true _ _ _ k

pub differs : (why : Refusal) (bytes there : List ℕ) (at : ℕ) → starts_with nat_eq there bytes ≡ false → starts_with nat_eq bytes there ≡ false →
    compared why bytes there at ≡ Err why
differs why bytes there at h k = compared_is why bytes there at ∙ cond-false _ _ _ h ∙ cond-false _ _ _ k

-- one byte
module _ (sheet : List ℕ) (why : Refusal) where
  pub step_none : (at : ℕ) → step sheet why [] at ≡ Ok at
  unfolding compared
  step_none at = refl

  step_past : (b : ℕ) (bytes : List ℕ) (at : ℕ) → length sheet ≤ at → step sheet why (b ∷ bytes) at ≡ Err (Ends at)
  unfolding compared
  step_past b bytes at h = ap (λ there. compared why (b ∷ bytes) there at) (drop_all at sheet h)

  step_there : (b : ℕ) (bytes : List ℕ) (at : ℕ) → at < length sheet →
      step sheet why (b ∷ bytes) at ≡ cond (eqb (get_or sheet at 0) b) (step sheet why bytes (suc at)) (Err why)
  unfolding compared
  step_there b bytes at h = ap (λ there. compared why (b ∷ bytes) there at) (drop-cons sheet at 0 h)

  -- one piece after another
  pub step_append : (xs ys : List ℕ) (at : ℕ) →
      step sheet why (xs ++ ys) at ≡ and_then (step sheet why xs at) (step sheet why ys)
  step_append [] ys at = ap (λ r. and_then r (step sheet why ys)) (sym (step_none at))
  step_append (x ∷ xs) ys at =
      elim (cases_lt at (length sheet)) [
        | inr h ↦ step_past x (xs ++ ys) at h ∙ ap (λ r. and_then r (step sheet why ys)) (sym (step_past x xs at h))
        | inl h ↦
            step_there x (xs ++ ys) at h
            ∙ ap (λ r. cond (eqb (get_or sheet at 0) x) r (Err why)) (step_append xs ys (suc at))
            ∙ sym (through_cond (eqb (get_or sheet at 0) x) (step sheet why xs (suc at)))
            ∙ ap (λ r. and_then r (step sheet why ys)) (sym (step_there x xs at h))
      ]
    where
      through_cond : (t : Bool) (r : Result ℕ Refusal) →
          and_then (cond t r (Err why)) (step sheet why ys) ≡ cond t (and_then r (step sheet why ys)) (Err why)
      through_cond true r = refl
      through_cond false r = refl

  pub step_ok : {end : ℕ} (xs ys : List ℕ) (at : ℕ) → step sheet why xs at ≡ Ok end → step sheet why (xs ++ ys) at ≡ step sheet why ys end
  step_ok xs ys at h = step_append xs ys at ∙ ap (λ r. and_then r (step sheet why ys)) h

  pub step_err : {e : Refusal} (xs ys : List ℕ) (at : ℕ) → step sheet why xs at ≡ Err e → step sheet why (xs ++ ys) at ≡ Err e
  step_err xs ys at h = step_append xs ys at ∙ ap (λ r. and_then r (step sheet why ys)) h

  -- a number, by its bytes
  pub stepped2 : {bytes : List ℕ} {r : Result ℕ Refusal} (n at : ℕ) → bytes ≡ n % 256 ∷ n / 256 % 256 ∷ [] → r ≡ step sheet why bytes at →
      step sheet why (bytes2 n) at ≡ r
  unfolding bytes2
  stepped2 n at e h = ap (λ bs. step sheet why bs at) (sym e) ∙ sym h

  pub stepped4 : {bytes : List ℕ} {r : Result ℕ Refusal} (n at : ℕ) →
      bytes ≡ n % 256 ∷ n / 256 % 256 ∷ n / 65536 % 256 ∷ n / 16777216 % 256 ∷ [] → r ≡ step sheet why bytes at →
      step sheet why (bytes4 n) at ≡ r
  unfolding bytes4
  stepped4 n at e h = ap (λ bs. step sheet why bs at) (sym e) ∙ sym h

  -- a row whose next member is x
  module _ (row : List Ranked) (i : ℕ) (d : Ranked) (at : ℕ) (h : i < length row) where
    next : step sheet why (row_bytes (drop i row)) at
        ≡ step sheet why (bytes2 (get_or row i d).member ++ (bytes4 (get_or row i d).cents.0 ++ row_bytes (drop (i + 1) row))) at
    next =
        at_drop_more (λ xs. step sheet why (row_bytes xs) at) row i d h
        ∙ ap (λ bytes. step sheet why bytes at)
        (append_assoc (bytes2 (get_or row i d).member) (bytes4 (get_or row i d).cents.0) (row_bytes (drop (i + 1) row)))

    pub row_ok : {mid end : ℕ} → step sheet why (bytes2 (get_or row i d).member) at ≡ Ok mid →
        step sheet why (bytes4 (get_or row i d).cents.0) mid ≡ Ok end →
        step sheet why (row_bytes (drop i row)) at ≡ step sheet why (row_bytes (drop (i + 1) row)) end
    row_ok {mid = mid} p q = next ∙ step_ok _ _ at p ∙ step_ok _ _ mid q

    pub row_err_member : {e : Refusal} → step sheet why (bytes2 (get_or row i d).member) at ≡ Err e →
        step sheet why (row_bytes (drop i row)) at ≡ Err e
    row_err_member p = next ∙ step_err _ _ at p

    pub row_err_cents : {mid : ℕ} {e : Refusal} → step sheet why (bytes2 (get_or row i d).member) at ≡ Ok mid →
        step sheet why (bytes4 (get_or row i d).cents.0) mid ≡ Err e →
        step sheet why (row_bytes (drop i row)) at ≡ Err e
    row_err_cents {mid = mid} p q = next ∙ step_ok _ _ at p ∙ step_err _ _ mid q
