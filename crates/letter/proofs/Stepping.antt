-- Checking goes line by line.
use Rattle.std.proofs.Common.{◌≡◌, ℕ, suc, ◌+◌, ◌-◌, ◌*◌, ◌<◌, ◌≤◌, ◌⊎◌, cond, List, length, take, drop, Ok, Err, Result, sym, refl, ap, ◌∙◌, inl, inr, arith, length-drop}
use Rattle.std.proofs.lemmas.Bool.{lt-ltb, le-ltb, cond-true, cond-false}
use Rattle.std.proofs.lemmas.List.{drop-drop}
use Rattle.orders.specs.declared.refusal.Refusal.{Refusal}
use Rattle.orders.specs.declared.refusal.Refusal.TheVariants.{Ends, GoesOn, NotByRule}
use Rattle.letter.specs.Checks.{line_place, line_at, right, line_checked, and_then, line_end, checked_from}

-- one line with its answer, and then the others
pub step : (bs : List ℕ) (i next n : ℕ) {answer : Result Unit Refusal} → i < n → next ≡ i + 1 → line_checked bs i ≡ answer →
    checked_from bs i (n - i) ≡ and_then answer (checked_from bs next (n - next))
unfolding checked_from
step bs i next n h j e =
    let m : n - i ≡ suc (n - next) = omega arith in
    let s : suc i ≡ next = omega arith in
    ap (checked_from bs i) m
    ∙ ap (λ k. and_then (line_checked bs i) (checked_from bs k (n - next))) s
    ∙ ap (λ r. and_then r (checked_from bs next (n - next))) e

-- a line behind the head that is there is judged
pub judged : (bs part : List ℕ) (i : ℕ) → i * 28 + 28 ≤ length (drop 3 bs) → part ≡ take 28 (drop (i * 28) (drop 3 bs)) →
    line_checked bs i ≡ cond (right part) (Ok tt) (Err (NotByRule i))
judged bs part i long e =
    let place : 3 + i * 28 ≡ line_place i = omega arith in
    let here : part ≡ line_at bs i = e ∙ ap (take 28) (drop-drop (i * 28) 3 bs ∙ ap (λ k. drop k bs) place) in
    cond-false _ _ _ (le-ltb (length bs) (line_place i + 28) (omega (arith, long, length-drop 3 bs)))
    ∙ ap (λ p. cond (right p) (Ok tt) (Err (NotByRule i))) (sym here)

-- where whole lines end: after all of them, or before one that is cut
pub cut_short : (bs : List ℕ) (i n : ℕ) → (i ≡ n) ⊎ (length (drop 3 bs) < i * 28 + 28) → i ≤ n → i * 28 ≤ length (drop 3 bs) →
    3 ≤ length bs → length bs < line_place n → checked_from bs i (n - i) ≡ Err (Ends (length bs))
cut_short bs i n (inl e) l room head short = absurd (omega (arith, length-drop 3 bs, e, room, head, short))
cut_short bs i n (inr cut) l room head short =
    step bs i (i + 1) n (omega (arith, length-drop 3 bs, room, head, short)) refl
    (cond-true _ _ _ (lt-ltb (length bs) (line_place i + 28) (omega (arith, length-drop 3 bs, cut))))

pub all_judged : (bs : List ℕ) (i n : ℕ) → (i ≡ n) ⊎ (length (drop 3 bs) < i * 28 + 28) → i ≤ n → line_place n ≤ length bs →
    checked_from bs i (n - i) ≡ line_end bs n
unfolding checked_from
all_judged bs i n o l long =
    let j : i ≡ n = omega (arith, length-drop 3 bs, o) in
    let m : n - i ≡ 0 = omega arith in
    ap (checked_from bs i) m ∙ ap (line_end bs) j

-- the end is told
pub goes_on : (bs : List ℕ) (n : ℕ) → line_place n < length bs → line_end bs n ≡ Err (GoesOn (line_place n))
goes_on bs n h = cond-true _ _ _ (lt-ltb _ _ h)

pub nothing_left : (bs : List ℕ) (n : ℕ) → length bs ≤ line_place n → line_end bs n ≡ Ok tt
nothing_left bs n h = cond-false _ _ _ (le-ltb _ _ h)
