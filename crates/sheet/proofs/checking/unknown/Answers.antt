use Rattle.std.proofs.Common.{◌≡◌, ℕ, suc, ◌+◌, Bool, true, false, not, cond, ltb, List, [], ◌∷◌, length, is_some, Some, None, Option, Result, sym, refl, ap, ◌∙◌, ap₂, zero-add, add-zero, arith, rules, tests}
use Rattle.std.specs.List.{position_or_len}
use Rattle.std.specs.Option.{ok_or}
use Rattle.std.specs.Result.{is_err}
use Rattle.std.proofs.lemmas.Bool.{lt-ltb, cond-true}
use Rattle.std.proofs.lemmas.Bool.Decides.{nat_tests}
use Rattle.std.proofs.lemmas.Iterator.{YieldsList-from_slice}
use Rattle.std.proofs.lemmas.Iterator.Search.{position_from_yields_List}
use Rattle.orders.specs.declared.entry.Entry.{Entry}
use Rattle.orders.specs.declared.entry.UnknownCode.{UnknownCode}
use Rattle.orders.specs.Entries.{decoded, Decodes}
use Rattle.sheet.specs.Verdicts.{first_unknown}
use Rattle.sheet.proofs.checking.unknown.Goals as goal

abbrev unread : ℕ → Bool
unread n = not (is_some (decoded n))

err_unless : {E : Type 0} (o : Option Entry) (e : E) → is_err (ok_or o e) ≡ not (is_some o)
err_unless None e = refl
err_unless (Some x) e = refl

unread_is : (n : ℕ) (r : Result Entry UnknownCode) (b : Bool) → Decodes n r → b ≡ is_err r → b ≡ unread n
unread_is n r b h e = e ∙ ap is_err h.0 ∙ err_unless (decoded n) _

below_next : (q n : ℕ) → ltb q n ≡ ltb (1 + q) (suc n)
below_next q n = grind (arith, nat_tests)

one_further : (t : Bool) (i q n : ℕ) (r : Option ℕ) → r ≡ cond (ltb q n) (Some (suc i + q)) None →
    cond t r (Some i) ≡ cond (ltb (cond (not (not t)) (1 + q) 0) (suc n)) (Some (i + cond (not (not t)) (1 + q) 0)) None
one_further true i q n r h = let e : suc i + q ≡ i + (1 + q) = omega arith in h ∙ ap₂ (λ t m. cond t (Some m) None) (below_next q n) e
one_further false i q n r h = ap Some (sym (add-zero i)) ∙ sym (cond-true _ _ _ (lt-ltb 0 (suc n) (omega arith)))

first_is : (i : ℕ) (codes : List ℕ) →
    first_unknown i codes ≡ cond (ltb (position_or_len unread codes) (length codes)) (Some (i + position_or_len unread codes)) None
unfolding first_unknown
first_is i [] = refl
first_is i (n ∷ codes) =
    one_further (is_some (decoded n)) i (position_or_len unread codes) (length codes) _ (first_is (suc i) codes)

pub returns : goal.returns
returns c =
    let codes = c.args.codes.now in
    let place = position_or_len unread codes in
    position_from_yields_List unread _ _ c.position.result c.position.ensures.ran (YieldsList-from_slice codes c.iter.ensures.rest)
    (λ x b q k. search (rules, tests, unread_is))
    ∙ ap (λ n. cond (ltb place (length codes)) (Some n) None) (sym (zero-add place)) ∙ sym (first_is 0 codes)
