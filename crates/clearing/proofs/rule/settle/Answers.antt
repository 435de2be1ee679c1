use Rattle.std.proofs.Common.{◌≡◌, ℕ, suc, ◌*◌, ◌<◌, Bool, true, false, cond, List, get_or, length, Some, None, Option, sym, refl, ap, ◌∙◌, rules, tests, arith}
use Rattle.std.specs.Option.{MatchOption}
use Rattle.std.specs.Bool.{then_some}
use Rattle.std.proofs.lemmas.Bool.{cond-true, cond-false, eq-eqb, ne_eqb}
use Rattle.orders.specs.declared.money.HalfCents.{HalfCents}
use Rattle.ranking.specs.declared.ranked.Ranked.{Ranked}
use Rattle.clearing.specs.declared.outcome.Outcome.{Outcome}
use Rattle.clearing.specs.declared.outcome.Outcome.TheVariants.{OnePrice}
use Rattle.clearing.specs.Rule.{cents_of, at_rank, middle_at, serves, all_but_last, settled, outcome_of}
use Rattle.clearing.proofs.Pairing.{cents_at}
use Rattle.clearing.proofs.rule.settle.Goals as goal

-- the outcome, from the price that was kept because it serves
abbrev by_kept : ℕ → ℕ → ℕ → Option HalfCents → Outcome
by_kept last bid ask None = all_but_last last bid ask
by_kept last bid ask (Some price) = OnePrice (suc last) price

abbrev Kept : ℕ → ℕ → Option HalfCents → Option HalfCents → Type 0
Kept bid ask middle kept = MatchOption middle (kept ≡ None) (λ price. kept ≡ then_some (serves ask price.0 bid) price)

kept_or_not : (last bid ask : ℕ) (price : HalfCents) (b : Bool) → by_kept last bid ask (then_some b price) ≡ cond b (OnePrice (suc last) price) (all_but_last last bid ask)
kept_or_not last bid ask price true = refl
kept_or_not last bid ask price false = refl

settled_kept : (last bid ask : ℕ) (middle kept : Option HalfCents) → Kept bid ask middle kept → by_kept last bid ask kept ≡ settled last bid ask middle
settled_kept last bid ask None kept h = ap (by_kept last bid ask) h
settled_kept last bid ask (Some price) kept h = ap (by_kept last bid ask) h ∙ kept_or_not last bid ask price (serves ask price.0 bid)

outcome_kept : (count last bid ask : ℕ) (buyers sellers : List Ranked) (d : Ranked) (middle kept : Option HalfCents) → count ≡ suc last →
    last < length buyers → last < length sellers → bid ≡ 2 * (get_or buyers last d).cents.0 → ask ≡ 2 * (get_or sellers last d).cents.0 →
    middle ≡ middle_at count (cents_of buyers) (cents_of sellers) → Kept bid ask middle kept →
    by_kept last bid ask kept ≡ outcome_of count (cents_of buyers) (cents_of sellers)
outcome_kept count last bid ask buyers sellers d middle kept same b s eb es em k =
    let bids = cents_of buyers in
    let asks = cents_of sellers in
    settled_kept last bid ask middle kept k
    ∙ ap (λ m. settled last bid ask m) (em ∙ ap (λ (n : ℕ). middle_at n bids asks) same)
    ∙ ap (λ n. settled last n ask (middle_at (suc last) bids asks)) (eb ∙ ap (λ n. 2 * n) (sym (cents_at buyers last d b)))
    ∙ ap (λ n. settled last (2 * at_rank bids last) n (middle_at (suc last) bids asks)) (es ∙ ap (λ n. 2 * n) (sym (cents_at sellers last d s)))
    ∙ ap (λ n. outcome_of n bids asks) (sym same)

pub returns-in-Some-filter : goal.returns-in-Some-filter
returns-in-Some-filter c =
    let same : c.args.count ≡ suc c.in-Some.last = search rules in
    ap (λ n. OnePrice n c.in-Some-filter.price) same
    ∙ ap (by_kept c.in-Some.last c.from-bid.result.0 c.from-ask.result.0) (sym c.in-Some-filter.is)
    ∙ outcome_kept c.args.count c.in-Some.last _ _ c.args.buyers.now c.args.sellers.now _ _ c.filter.result same (omega arith) (omega arith)
    c.from-bid.ensures c.from-ask.ensures c.next_middle-middle.ensures (search (rules, tests))

pub returns-in-None : goal.returns-in-None
returns-in-None c =
    let same : c.args.count ≡ suc c.in-Some.last = search rules in
    sym (cond-true _ _ _ (eq-eqb c.in-Some.last 0 (omega arith)))
    ∙ ap (by_kept c.in-Some.last c.from-bid.result.0 c.from-ask.result.0) (sym c.in-None.is)
    ∙ outcome_kept c.args.count c.in-Some.last _ _ c.args.buyers.now c.args.sellers.now _ _ c.filter.result same (omega arith) (omega arith)
    c.from-bid.ensures c.from-ask.ensures c.next_middle-middle.ensures (search (rules, tests))

pub returns-in-None-2 : goal.returns-in-None-2
returns-in-None-2 c =
    let same : c.args.count ≡ suc c.in-Some.last = search rules in
    sym (cond-false _ _ _ (ne_eqb c.in-Some.last 0 (λ e. omega arith)))
    ∙ ap (by_kept c.in-Some.last c.from-bid.result.0 c.from-ask.result.0) (sym c.in-None-2.is)
    ∙ outcome_kept c.args.count c.in-Some.last _ _ c.args.buyers.now c.args.sellers.now _ _ c.filter.result same (omega arith) (omega arith)
    c.from-bid.ensures c.from-ask.ensures c.next_middle-middle.ensures (search (rules, tests))
