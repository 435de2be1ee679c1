-- The numbers of an outcome stay within those of its lists.
use Rattle.std.proofs.Common.{ℕ, suc, ◌-◌, ◌*◌, ◌≤◌, List, length, inl, inr, mul-le-mul, arith}
use Rattle.std.specs.List.{AllByRecursion}
use Rattle.std.proofs.ByRecursion.{All-get_or}
use Rattle.std.proofs.lemmas.List.{get_or_past}
use Rattle.std.proofs.lemmas.Bool.{cases_lt}
use Rattle.ranking.specs.declared.ranked.Side.TheVariants.{Buyers}
use Rattle.clearing.specs.declared.outcome.Outcome.{Outcome}
use Rattle.clearing.specs.Rule.{at_rank, pairs, cleared, trades_in, buyers_pay, sellers_get}
use Rattle.clearing.specs.Statements.{WithinBounds}
use Rattle.clearing.proofs.Critical.{Pairs}
use Rattle.clearing.proofs.Settling.{Settled, no_pair, all_pairs, only_pair, but_last, pairs_are, settles}

at_rank_most : (most : ℕ) (xs : List ℕ) (k : ℕ) → AllByRecursion (λ x. x ≤ most) xs → at_rank xs k ≤ most
at_rank_most most xs k h =
    elim (cases_lt k (length xs))
    [ inl l ↦ All-get_or (λ x. x ≤ most) xs k 0 l h | inr l ↦ omega (arith, get_or_past xs k 0 l) ]

-- all but the fund, which follows
record Numbers (most : ℕ) (bs as' : List ℕ) (o : Outcome) : Type 0 where
  buyers : trades_in o ≤ length bs
  sellers : trades_in o ≤ length as'
  pay : buyers_pay o ≤ 2 * most
  get : sellers_get o ≤ 2 * most

numbers : (most : ℕ) (bs as' : List ℕ) (p : ℕ) (o : Outcome) → ((k : ℕ) → at_rank bs k ≤ most) → ((k : ℕ) → at_rank as' k ≤ most) →
    Pairs Buyers bs as' p → Settled bs as' p o → Numbers most bs as' o
numbers most bs as' p o hb ha ps (no_pair e t b s) =
    record { buyers = omega arith; sellers = omega arith; pay = omega arith; get = omega arith }
numbers most bs as' p o hb ha ps (all_pairs last e v t b s) =
    let x = hb (suc last) in
    let y = ha (suc last) in
    record
    { buyers = omega (arith, ps.own); sellers = omega (arith, ps.other); pay = omega arith; get = omega arith }
numbers most bs as' p o hb ha ps (only_pair e v t b s) =
    record { buyers = omega arith; sellers = omega arith; pay = omega arith; get = omega arith }
numbers most bs as' p o hb ha ps (but_last last l e v t b s) =
    let x = hb last in
    let y = ha last in
    record
    { buyers = omega (arith, ps.own); sellers = omega (arith, ps.other); pay = omega arith; get = omega arith }

pub within_bounds : WithinBounds
within_bounds most bs as' hb ha =
    let n =
    numbers most bs as' (pairs bs as') (cleared bs as') (λ k. at_rank_most most bs k hb) (λ k. at_rank_most most as' k ha)
    (pairs_are Buyers bs as') (settles bs as') in
    let spread : buyers_pay (cleared bs as') - sellers_get (cleared bs as') ≤ 2 * most = omega (arith, n.pay) in
    record {
      buyers = n.buyers;
      sellers = n.sellers;
      pay = n.pay;
      get = n.get;
      fund = mul-le-mul n.buyers spread;
    }
