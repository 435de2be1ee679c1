-- As many members of a side trade as there are trades: a sum over the members of a row is a sum over its ranked list,
-- whose members have the ranks from 0 up.
use Rattle.std.proofs.Common.{◌≡◌, ℕ, suc, ◌+◌, ◌-◌, ◌<◌, ◌≤◌, min, cond, ltb, List, [], ◌∷◌, length, get_or, Some, None, sum_by, count_by, Option, sym, refl, ap, ◌∙◌, inl, inr, zero-add, add-one, arith}
use mathlib.Core.Path.{fun_ext}
use Rattle.std.specs.List.{range_with_len}
use Rattle.std.proofs.lemmas.List.Sums.{sum_by-cons}
use Rattle.std.proofs.lemmas.Bool.{cases_lt, lt-ltb, le-ltb, cond-true, cond-false}
use Rattle.orders.specs.declared.money.Cents.{Cents}
use Rattle.orders.specs.declared.entry.Entry.{Entry}
use Rattle.orders.specs.declared.entry.Entry.TheVariants.{Nothing}
use Rattle.ranking.specs.declared.ranked.Side.{Side}
use Rattle.ranking.specs.declared.ranked.Side.TheVariants.{Buyers, Sellers}
use Rattle.ranking.specs.declared.ranked.Ranked.{Ranked}
use Rattle.ranking.specs.Ranks.{on_side, ranked}
use Rattle.clearing.specs.Rule.{trades_in}
use Rattle.clearing.specs.Kind.{Apart, bids, asks, outcome, number, rank, trades_with, members}
use Rattle.clearing.specs.Statements.{AsManyBuy, AsManySell}
use Rattle.clearing.proofs.Pairing.{length_cents}
use Rattle.clearing.proofs.Settling.{pairs_are}
use Rattle.clearing.proofs.Totals.{counted_as, total_from, total_ranked}
use Rattle.clearing.proofs.OwnNumber.{trading}
use Rattle.clearing.proofs.Standing.{rank_at}
use Rattle.clearing.proofs.Leftover.{all_but_one}

-- numbers by member, as the row has them from member m on
sum_members : (s : Side) (g : Ranked → ℕ) (numbers : ℕ → Option Cents) (m : ℕ) (es : List Entry) →
    ((k : ℕ) → k < length es → numbers (m + k) ≡ on_side s (get_or es k Nothing)) →
    sum_by (λ i. counted_as g i (numbers i)) (range_with_len m (length es)) ≡ total_from s g m es
sum_members s g numbers m [] h = refl
sum_members s g numbers m (e ∷ es) h =
    let z : m + 0 ≡ m = omega arith in
    let rest =
    sum_members s g numbers (suc m) es
    (λ k l. let y : suc m + k ≡ m + suc k = omega arith in ap numbers y ∙ h (suc k) (omega arith)) in
    sum_by-cons (λ i. counted_as g i (numbers i)) m (range_with_len (m + 1) (length es))
    ∙ ap (λ n. counted_as g m (numbers m) + sum_by (λ i. counted_as g i (numbers i)) (range_with_len n (length es))) (add-one m)
    ∙ ap (λ n. counted_as g m (numbers m) + n) rest
    ∙ ap (λ o. counted_as g m o + total_from s g (suc m) es) (ap numbers (sym z) ∙ h 0 (omega arith))

-- of ranks that go up by one from b, those below t
below_count : (place : Ranked → ℕ) (t b : ℕ) (ys : List Ranked) → ((k : ℕ) (d : Ranked) → k < length ys → place (get_or ys k d) ≡ b + k) →
    count_by (λ y. ltb (place y) t) ys ≡ min (length ys) (t - b)
below_count place t b [] h = omega arith
below_count place t b (y ∷ ys) h =
    let ih = below_count place t (suc b) ys (λ k d l. let e = h (suc k) d (omega arith) in omega arith) in
    let p = h 0 y (omega arith) in
    let c = sum_by-cons (λ y. cond (ltb (place y) t) 1 0) y ys in
    elim (cases_lt (place y) t) [
      | inl l ↦ let v = cond-true {A = ℕ} (ltb (place y) t) 1 0 (lt-ltb (place y) t l) in omega arith
      | inr l ↦ let v = cond-false {A = ℕ} (ltb (place y) t) 1 0 (le-ltb (place y) t l) in omega arith
    ]

pub trades_within : (s : Side) (tie : ℕ → ℕ) (row : List Entry) → trades_in (outcome tie row) ≤ length (ranked s tie row)
trades_within Buyers tie row =
    omega (arith, all_but_one tie row, (pairs_are Buyers (bids tie row) (asks tie row)).own, length_cents (ranked Buyers tie row))
trades_within Sellers tie row =
    omega (arith, all_but_one tie row, (pairs_are Buyers (bids tie row) (asks tie row)).other, length_cents (ranked Sellers tie row))

as_counted : (s : Side) (tie : ℕ → ℕ) (row : List Entry) (i : ℕ) (o : Option Cents) →
    cond (trades_with s tie row i o) 1 0 ≡ counted_as (λ y. cond (ltb (rank s tie row y) (trades_in (outcome tie row))) 1 0) i o
as_counted s tie row i None = refl
as_counted s tie row i (Some c) = refl

as_many : (s : Side) (tie : ℕ → ℕ) (row : List Entry) → Apart tie row →
    count_by (trading s tie row) (members row) ≡ trades_in (outcome tie row)
unfolding ranked
as_many s tie row a =
    let t : ℕ = trades_in (outcome tie row) in
    let g : Ranked → ℕ = λ y. cond (ltb (rank s tie row y) t) 1 0 in
    ap (λ f. sum_by f (members row)) (fun_ext (λ i. as_counted s tie row i (number s row i)))
    ∙ sum_members s g (number s row) 0 row (λ k l. ap (number s row) (zero-add k))
    ∙ total_ranked s tie g 0 row
    ∙ below_count (rank s tie row) t 0 (ranked s tie row) (λ k d l. rank_at s tie row a k d l ∙ sym (zero-add k))
    ∙ omega (arith, trades_within s tie row)

pub as_many_buy : AsManyBuy
as_many_buy tie row a = as_many Buyers tie row a

pub as_many_sell : AsManySell
as_many_sell tie row a = as_many Sellers tie row a
